-- What the contracts of this crate cite beside the model.
pub mod Overlay
pub mod Output
pub mod Step
pub mod Digits

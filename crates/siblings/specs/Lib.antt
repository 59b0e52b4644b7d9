-- What the contracts of this crate cite beside the model.
pub mod Differing
pub mod Keys
pub mod Skips
pub mod Blocks

-- What the contracts of this crate cite beside the model.
pub mod Brought
pub mod Done
pub mod Lines

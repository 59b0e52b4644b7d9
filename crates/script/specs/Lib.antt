-- What the contracts of this crate cite beside the model.
pub mod Text
pub mod Paths
pub mod Values
pub mod Calls

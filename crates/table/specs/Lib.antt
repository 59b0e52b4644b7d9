-- What the contracts of this crate cite beside the model.
pub mod Opening
pub mod Owned
pub mod Placed

-- What the contracts of this crate cite beside the model and batch.
pub mod Turns
pub mod Room

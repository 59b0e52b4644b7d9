-- What the contracts of this crate cite beside the model.
pub mod Trees
pub mod Records

-- What the contracts of this crate cite beside the model.
pub mod Text
pub mod Numbers
pub mod Shown

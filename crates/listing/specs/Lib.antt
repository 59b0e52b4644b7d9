-- What the contracts of this crate cite beside the model.
pub mod Walk
pub mod Used
pub mod Listed

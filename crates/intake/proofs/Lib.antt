-- The laws of this crate.
pub mod Reading
pub mod Stepping
pub mod Listing
pub mod Entering
pub mod Whole

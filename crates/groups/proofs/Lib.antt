-- The laws of this crate.
pub mod Places
pub mod Putting

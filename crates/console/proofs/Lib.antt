-- Laws of this crate.
pub mod Turning

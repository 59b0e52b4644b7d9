-- Laws of a slot's validity.
pub mod Unused
pub mod Validity

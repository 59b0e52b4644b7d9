-- Laws of a slot as it is written.
pub mod Filling

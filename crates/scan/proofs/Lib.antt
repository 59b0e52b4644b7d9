-- Laws of what stands at a place of a text, for the proofs here and in the crates above: a byte, given bytes, a number with or without a sign.
pub mod Goings
pub mod Fronts
pub mod Numerals
pub mod Signs
pub mod Showing

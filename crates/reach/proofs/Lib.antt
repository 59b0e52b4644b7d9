-- Laws of how far elements reach along a path, for the proofs here and in the crates above.
pub mod Between
pub mod Shared
pub mod Before

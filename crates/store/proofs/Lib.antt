-- Laws of the store, for the proofs here and in the crates above.
pub mod Parts
pub mod Viewing
pub mod Lending

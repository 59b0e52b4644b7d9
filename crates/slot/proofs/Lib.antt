-- Laws of slots, for the proofs here and in the crates above.
pub mod Reading

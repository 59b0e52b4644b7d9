-- Laws of steps and of comparisons, for the proofs here and in the crates above.
pub mod Steps
pub mod Common
pub mod Buffers

-- The proofs of this crate, and the laws that they use.
pub mod Places
pub mod Moving
pub mod Whole

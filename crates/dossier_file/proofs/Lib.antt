-- Laws that the proofs of this program's functions cite.
pub mod Zeros

-- Laws that the proofs of this crate's functions cite.
pub mod Naming
pub mod Alike
pub mod Slashes

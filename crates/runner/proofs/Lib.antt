-- Laws of this program.
pub mod Zeros

-- Laws of the calls.
pub mod Doing

-- The laws of the loops.
pub mod Tests
pub mod Joining

-- The laws of reading.
pub mod Closings
pub mod Buffers
pub mod Trails
pub mod Showings
pub mod Callings
pub mod Single

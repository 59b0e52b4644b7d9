-- The laws of this crate: what is seen at a path, and what is told of two sights.
pub mod Seeing
pub mod Telling

-- Laws of trees in a text.
pub mod Marking
pub mod Heads
pub mod Reading

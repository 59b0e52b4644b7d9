-- Laws of elements beside each other: of their keys, of passing over one, of the key read at one, of a group, and of one step more.
pub mod Distinct
pub mod Passing
pub mod Reading
pub mod Groups
pub mod Adding

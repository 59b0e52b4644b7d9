-- Laws of trees read off by depth, of places, and of the XML's length.
pub mod Nesting
pub mod Places
pub mod Opening
pub mod Elements
pub mod Spreading
pub mod Lengths
pub mod Whole

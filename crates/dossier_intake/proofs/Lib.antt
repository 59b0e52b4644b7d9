-- Laws of a tree that comes.
pub mod Placing
pub mod Doing

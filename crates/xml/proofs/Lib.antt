-- Laws of tags and values.
pub mod Tags
pub mod Widths

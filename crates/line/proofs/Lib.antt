-- Laws of lines.
pub mod Lines
pub mod Widths

-- The laws of tags at a place of a text.
pub mod Marking
pub mod Leading
pub mod Starting
pub mod Ending

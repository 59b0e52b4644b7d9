-- The law of the mask.
pub mod Mask

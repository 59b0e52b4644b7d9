-- Laws of inputs taken in by pieces.
pub mod Cuts
pub mod Keeping
pub mod Feeding

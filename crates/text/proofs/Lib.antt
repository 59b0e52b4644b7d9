-- Laws of what is laid over an output, for the proofs here and in the crates above; numbers and values, and how long they are as texts.
pub mod Overlays
pub mod Numbers
pub mod Widths
pub mod Showing

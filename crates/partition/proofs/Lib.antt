-- Laws of partitions, for the proofs here and in the crates above.
pub mod Linking
pub mod Checking
pub mod Placing
pub mod Finding
pub mod Contents
pub mod Layouts

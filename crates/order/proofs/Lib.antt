-- Laws of this crate.
pub mod Naming
pub mod Merging
pub mod Counting
pub mod Labels
mod Occupying
pub mod Collecting
pub mod Joining

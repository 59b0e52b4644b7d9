-- Laws of the walk and of an element's lines, for the proofs here and in the crates above.
pub mod Newer
pub mod Sorted
pub mod Walks
pub mod Printed
pub mod Drawing
pub mod Visible
pub mod Walking
pub mod Putting

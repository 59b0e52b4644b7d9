-- Laws of the rows walked by the code, of a call that goes on behind the first of them, of one that writes a text, and of one that
-- goes on with an element's slot or place.
pub mod Walking
pub mod Entering
pub mod Looking
pub mod Owning
pub mod Coming

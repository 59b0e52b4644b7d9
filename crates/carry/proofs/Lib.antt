-- Laws of lines carried out.
pub mod Doings
pub mod Answering
pub mod Carrying

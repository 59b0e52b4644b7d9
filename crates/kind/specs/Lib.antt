-- The numbers and the rules of the kinds as definitions.
pub mod Code
pub mod Rule

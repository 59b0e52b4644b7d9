-- Definitions that this crate's contracts cite.
pub mod Names

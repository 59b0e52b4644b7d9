-- The laws of the rules.
pub mod Rules

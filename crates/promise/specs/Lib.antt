-- What a call promises, and the runs of calls that do as promised.
pub mod Did
pub mod Ran
pub mod Migrated
pub mod Refusals

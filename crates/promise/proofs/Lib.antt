-- Laws of calls that do as promised.
pub mod Refusing
pub mod Doing
pub mod Grading
pub mod Intaking
pub mod Runs
pub mod Migrating

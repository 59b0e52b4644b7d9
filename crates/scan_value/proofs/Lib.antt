-- Laws of values between two tags.
pub mod Characters
pub mod Valuing
pub mod Texts

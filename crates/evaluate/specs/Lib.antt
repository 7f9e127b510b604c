pub mod Values
pub mod Legs

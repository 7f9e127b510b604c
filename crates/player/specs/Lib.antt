pub mod Player
pub mod Promises
pub mod Readings

pub mod Blocks
pub mod Views
pub mod NonInterference
pub mod Requests
pub mod Own
pub mod Idle
pub mod AsPlayer
pub mod Example

pub mod Answers
pub mod Blocks
pub mod Played
pub mod Buses
pub mod Kept

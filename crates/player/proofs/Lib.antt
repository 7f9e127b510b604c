pub mod Answers
pub mod Players
pub mod Makings
pub mod Sets
pub mod Blocks
pub mod Readings

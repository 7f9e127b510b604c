pub mod Frames
pub mod Counts
pub mod Blocks
pub mod Stages

pub mod Traces
pub mod Players
pub mod Frames
pub mod Finished
pub mod Limits
pub mod Bends
pub mod Legs

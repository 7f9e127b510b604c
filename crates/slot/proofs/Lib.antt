pub mod Anchors
pub mod Curves
pub mod Blocks
pub mod Slots
pub mod Counts

pub mod Partition
pub mod Bounds
pub mod Floats
pub mod Offsets
pub mod First

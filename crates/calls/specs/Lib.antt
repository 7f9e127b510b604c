pub mod State
pub mod Blocks
pub mod Calls
pub mod Laws
pub mod Vectors

pub mod Bounds
pub mod Laws

pub mod Records
pub mod Curves
pub mod Vectors

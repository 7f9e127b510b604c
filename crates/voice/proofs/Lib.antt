pub mod Generators
pub mod Outputs

pub mod Said
pub mod Promises
pub mod Vectors

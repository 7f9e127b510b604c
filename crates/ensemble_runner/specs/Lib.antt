pub mod Asked
pub mod Numbers
pub mod Output
pub mod Vectors
pub mod Promises

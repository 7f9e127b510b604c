pub mod Buffers
pub mod Fitting
pub mod Tags
pub mod Given
pub mod Enough

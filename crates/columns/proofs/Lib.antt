pub mod Interleave
pub mod Places
pub mod Serving
pub mod Strides

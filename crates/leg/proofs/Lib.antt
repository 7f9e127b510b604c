pub mod Halves
pub mod Nearest
pub mod Roots
pub mod Digits
pub mod Coordinates
pub mod Range

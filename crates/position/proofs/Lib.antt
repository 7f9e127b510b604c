mod Parity
mod Cyclic
pub mod Resting
pub mod InForce
pub mod Worked

pub mod Arrays
pub mod Modulation
pub mod Laws

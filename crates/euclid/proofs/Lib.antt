pub mod Doublings

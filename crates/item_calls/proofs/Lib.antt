pub mod Accepted
pub mod Left
pub mod Again
pub mod Exchanged

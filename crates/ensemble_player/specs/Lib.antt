pub mod Ensembles
pub mod Promises
pub mod Readings
pub mod Plays

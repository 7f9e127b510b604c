pub mod Answering
pub mod Playing
pub mod Measuring
pub mod Enough

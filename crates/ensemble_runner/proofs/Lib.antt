pub mod Answering
pub mod Playing
pub mod Enough

pub mod Replies
pub mod Vectors

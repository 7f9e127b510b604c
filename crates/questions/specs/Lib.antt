pub mod Limits
pub mod Tests
pub mod Questions
pub mod Answers
pub mod Vectors

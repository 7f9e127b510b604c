pub mod Events
pub mod Courses
pub mod Sheets
pub mod OneByOne
pub mod Frames
pub mod Windows
pub mod Promises
pub mod Vectors

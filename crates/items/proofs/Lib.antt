pub mod Within
pub mod SameFields
pub mod Answers
pub mod Given

pub mod Rule
pub mod Grid
pub mod Pattern
pub mod Powers
pub mod Accuracy

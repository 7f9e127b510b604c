pub mod Written
pub mod Rule

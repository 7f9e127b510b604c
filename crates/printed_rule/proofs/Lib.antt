pub mod Taken
pub mod PrintedRule

pub mod One
pub mod Several

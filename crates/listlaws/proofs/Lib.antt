pub mod LastWhere
pub mod Tabulation
pub mod Shift
pub mod Inserted
pub mod Over
pub mod Everywhere
pub mod Write

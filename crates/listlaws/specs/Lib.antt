pub mod Tables
pub mod Over
pub mod Write

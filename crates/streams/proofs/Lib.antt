pub mod Parsers
pub mod Items

pub mod Segments
pub mod View
pub mod Laws

pub mod Times
pub mod Segments
pub mod View
pub mod Laws

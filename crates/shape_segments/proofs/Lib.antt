pub mod Cases
pub mod KeptSegment
pub mod RustSegment
pub mod First

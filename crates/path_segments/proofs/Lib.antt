pub mod Cases
pub mod KeptPath
pub mod Ascent
pub mod RustPath
pub mod AcceptedPath
pub mod First

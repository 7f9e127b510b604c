pub mod Render
pub mod Parts

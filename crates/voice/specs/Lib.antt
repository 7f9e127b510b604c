pub mod Curve
pub mod Source
pub mod Output
pub mod Generate
pub mod Frame
pub mod Voice

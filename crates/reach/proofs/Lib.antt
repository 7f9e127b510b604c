pub mod Range
pub mod Moving
pub mod Reach
pub mod Limit
pub mod Prepared
pub mod Swing
pub mod Frame
pub mod Stopped

pub mod Reading
pub mod Enough
pub mod Pieces
pub mod Unplayed
pub mod OneByOne
pub mod Frames

pub mod Moved
pub mod Slot
pub mod Page

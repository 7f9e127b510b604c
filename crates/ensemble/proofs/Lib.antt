pub mod Mapped
pub mod Alone
pub mod Rounds
pub mod Places
pub mod Curves

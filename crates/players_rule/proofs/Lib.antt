pub mod Valid
pub mod Calls
pub mod PlayersRule

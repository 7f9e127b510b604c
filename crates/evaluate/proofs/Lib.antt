pub mod Answers
pub mod LegsBetween

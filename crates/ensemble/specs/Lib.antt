pub mod Ensemble
pub mod Pages

pub mod Numbers
pub mod Output

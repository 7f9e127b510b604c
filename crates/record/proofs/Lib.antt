pub mod Lists
pub mod Tests
pub mod Agreements
pub mod KeptSettings
pub mod KeptPoints
pub mod KeptPaths
pub mod Answers
pub mod RoundTrips

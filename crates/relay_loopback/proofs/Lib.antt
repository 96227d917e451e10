pub mod Listening
pub mod Outcomes

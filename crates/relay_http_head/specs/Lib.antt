pub mod Head
pub mod Checks
pub mod Parsing

pub mod Afforded
pub mod Growing
pub mod Revisions
pub mod Rows
pub mod Trims
pub mod Weights

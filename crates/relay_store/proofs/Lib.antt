pub mod Filters
pub mod Laws
pub mod Replaced
pub mod Rows

pub mod ViewOrder
pub mod Sessions
pub mod Audiences
pub mod Table

pub mod Words
pub mod Message
pub mod Optional
pub mod Request
pub mod MessageRead
pub mod Written
pub mod Client

pub mod Front
pub mod Representation
pub mod Outbox

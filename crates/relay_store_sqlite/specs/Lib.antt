pub mod Checkpoint
pub mod Durable
pub mod Fault
pub mod Rows
pub mod Table

pub mod Room
pub mod Edit
pub mod Fault
pub mod CatchUp
pub mod Newest

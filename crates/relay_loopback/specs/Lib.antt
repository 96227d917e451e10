pub mod Faults
pub mod Loopback

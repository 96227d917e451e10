pub mod Flags
pub mod Lines
pub mod Overtaking
pub mod Pace
pub mod Standing
pub mod Serving
pub mod Times
pub mod Visiting

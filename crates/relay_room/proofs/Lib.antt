pub mod Bounded
pub mod Edits
pub mod Rooms
pub mod Missed
pub mod Rows

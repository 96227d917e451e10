pub mod Slots
pub mod Reading
pub mod Sizes
pub mod Depths

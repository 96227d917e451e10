pub mod Touch
pub mod Table
pub mod Translate
pub mod Sizes
pub mod Local
pub mod Watches
pub mod SlotIndex

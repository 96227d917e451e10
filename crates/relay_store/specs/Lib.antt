pub mod Kept
pub mod Memory
pub mod Replaced
pub mod Store
pub mod Texts

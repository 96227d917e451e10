pub mod Texts
pub mod Receiving
pub mod Turn
pub mod Socket

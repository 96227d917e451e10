pub mod Advancing
pub mod Held
pub mod Owners
pub mod Rules

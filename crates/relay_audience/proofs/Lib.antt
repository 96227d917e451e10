pub mod SessionLists
pub mod Views
pub mod KeyLists
pub mod Tables
pub mod Places
pub mod Partings
pub mod Laws
pub mod Rows

pub mod Complaints
pub mod Config
pub mod Exports
pub mod Hosted
pub mod Jobs
pub mod Keeper
pub mod Printed
pub mod StoreTools

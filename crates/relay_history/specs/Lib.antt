pub mod History
pub mod Representation
pub mod Trimmed

pub mod Index
pub mod Path
pub mod Weight
pub mod Spelling
pub mod Lending

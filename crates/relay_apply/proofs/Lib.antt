pub mod Resolved
pub mod Drops
pub mod InsertWithout
pub mod Stays
pub mod Targets
pub mod Compared
pub mod ChangeOf
pub mod Contained
pub mod Spent
pub mod Overspent
pub mod Folds
pub mod Measures
pub mod Puts
pub mod Undone
pub mod Reinserted
pub mod Slides
mod Transfers

-- Lemmas on routes, replies, heads and origins.
pub mod Routes
pub mod Suffixes
pub mod Refusals
pub mod Heads
pub mod Origins
mod Rows

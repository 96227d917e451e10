-- Lemmas on lists, on the heads that bytes begin with, and on routes.
pub mod Lists
pub mod Heads
pub mod Routes

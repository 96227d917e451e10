-- Lemmas on routes, prefixes, queries, numbers, texts of a hub, heads, and which requests are
-- accepted.
pub mod Routes
pub mod Prefixes
pub mod Cuts
pub mod Queries
pub mod Numbers
pub mod Lists
pub mod Snapshots
pub mod Documents
pub mod Heads
pub mod Admitting
pub mod Rows

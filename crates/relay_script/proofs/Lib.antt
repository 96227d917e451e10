pub mod Clients
pub mod Hearing
pub mod Limits
pub mod LineLemmas
pub mod RunLemmas
pub mod ScriptLemmas
pub mod WordLemmas

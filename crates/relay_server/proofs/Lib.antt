pub mod Exports
pub mod JobLemmas
pub mod KeptLemmas
pub mod ServeLemmas
pub mod SettingsFit
pub mod ToolLines

pub mod Checkpoints
pub mod Commits
pub mod Cursors
pub mod Puts
pub mod Quiet
pub mod Removes
pub mod Rowids

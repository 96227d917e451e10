pub mod Key
pub mod Origin
pub mod Route
pub mod Replies
pub mod Handshake
pub mod Judged
pub mod Shaken

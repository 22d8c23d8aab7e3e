pub mod Spelling
pub mod Positions
pub mod Reading
pub mod Joined

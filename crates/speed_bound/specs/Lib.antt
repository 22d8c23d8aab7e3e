pub mod Speed
pub mod Differences
pub mod Reach
pub mod Lines
pub mod Steps

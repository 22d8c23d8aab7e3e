pub mod Acts
pub mod Written
pub mod Controls
pub mod Expanded
pub mod Flown
pub mod Bounds
pub mod Steps

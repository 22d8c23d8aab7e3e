pub mod Kept
pub mod Regions
pub mod Lines
pub mod Steps

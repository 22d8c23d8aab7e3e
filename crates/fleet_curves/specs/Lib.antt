pub mod Raised
pub mod Steps

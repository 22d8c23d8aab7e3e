pub mod Sites
pub mod Lines
pub mod Steps

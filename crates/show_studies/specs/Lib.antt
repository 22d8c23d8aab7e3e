pub mod Boxes
pub mod Speeds
pub mod Explained
pub mod Dynamics
pub mod Steps

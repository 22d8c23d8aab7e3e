pub mod Ways
pub mod Sizes
pub mod Faults
pub mod Steps
pub mod Rejected

pub mod Traffics
pub mod WorldState
pub mod Schedules
pub mod Faults
pub mod Steps

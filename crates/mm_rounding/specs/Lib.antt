pub mod Rounding
pub mod Near
pub mod Steps

pub mod Floors
pub mod Played
pub mod Places
pub mod Weights
pub mod Steps

pub mod Curves
pub mod Raised
pub mod Along
pub mod Steps
pub mod Places
pub mod Part
pub mod HalvingSteps

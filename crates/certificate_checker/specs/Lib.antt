pub mod Verdicts
pub mod Checking
pub mod Judgments
pub mod Steps
pub mod Bytes

pub mod Verify
pub mod Steps
pub mod SecondTexts

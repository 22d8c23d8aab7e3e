pub mod KindWords
pub mod Lines
pub mod Refusals
pub mod Steps

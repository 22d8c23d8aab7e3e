pub mod Lines
pub mod Marker
pub mod Words
pub mod Tokens
pub mod Numbers
pub mod Steps

mod Prelude
pub mod Slopes
pub mod Widths
pub mod Differences
pub mod Changes
pub mod RateLemmas
pub mod Units
pub mod Speeds
pub mod Words
pub mod Halves
pub mod Walks
pub mod Rests
mod Rows
pub mod Reaches
pub mod Still

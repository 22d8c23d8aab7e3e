mod Prelude
pub mod Values
pub mod Begins
pub mod Sides
pub mod Pairs
pub mod Shows
pub mod Least
pub mod Levels
pub mod CueLemmas
pub mod Sharing
mod Rows

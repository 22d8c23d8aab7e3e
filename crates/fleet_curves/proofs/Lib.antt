mod Prelude
pub mod Differences
pub mod Rows
pub mod Fleets
pub mod Standing
pub mod Bounds
pub mod Small

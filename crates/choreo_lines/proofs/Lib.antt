mod Prelude
pub mod Collected
pub mod Reading
pub mod Saying
pub mod Rows
pub mod Acts
pub mod Digits
pub mod Quotients
pub mod Moves
pub mod UnitLemmas
pub mod Sizes
pub mod Written
pub mod Found
pub mod QuantityLaws
mod QuantityRows

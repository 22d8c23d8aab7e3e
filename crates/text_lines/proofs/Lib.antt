mod Prelude
pub mod Cuts
pub mod ByLine
pub mod Grouped
pub mod NumberLaws
pub mod Alone
pub mod Digits
pub mod Blanks

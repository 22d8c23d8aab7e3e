mod Prelude
pub mod Covers
pub mod Trees
pub mod Verdicts
pub mod Named
pub mod Members
pub mod Keeping
pub mod Disjoint
pub mod Spelled
pub mod Digits
pub mod Grammar
pub mod Readers
pub mod FirstLines
pub mod Sayings
pub mod TextLaws

mod Prelude
pub mod Rows
pub mod DrillLemmas

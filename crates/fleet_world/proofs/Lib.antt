mod Prelude
pub mod CutLemmas
pub mod RowLemmas
pub mod Points
pub mod ScheduleLaws
pub mod LineLemmas
pub mod Unaltered

mod Prelude
pub mod FloorLemmas
pub mod WeightLemmas
pub mod CurveLemmas
pub mod PlaceLemmas
pub mod RowLemmas
pub mod QuickLemmas
pub mod Rows
pub mod ShowLemmas

mod Prelude
pub mod BlendLemmas
pub mod RaisedLemmas
pub mod EightLemmas
pub mod CurveLemmas
pub mod SizeLemmas
pub mod Rows
pub mod PolarLemmas
pub mod HalfLemmas
pub mod PartBounds
pub mod SeparationLemmas
pub mod HalvingRows

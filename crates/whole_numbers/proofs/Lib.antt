mod Prelude
pub mod RingLemmas
pub mod SumLemmas
pub mod BernsteinLemmas
pub mod DivisionLemmas
pub mod MomentLemmas
pub mod EdgeLemmas
pub mod Rows
pub mod NearLemmas
pub mod DepthLemmas
pub mod Instants

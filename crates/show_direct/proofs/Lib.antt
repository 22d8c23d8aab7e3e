mod Prelude
pub mod ExchangeLemmas
pub mod FlightLemmas
pub mod FrameLemmas
pub mod DirectLemmas
pub mod FewLemmas
pub mod ReadingLemmas
pub mod CarryLemmas
pub mod FlownLemmas
pub mod KeptLemmas
pub mod MakingLemmas
pub mod NamedLemmas
pub mod RunLemmas
mod Rows

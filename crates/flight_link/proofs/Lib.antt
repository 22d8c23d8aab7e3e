mod Prelude
pub mod SendLemmas
pub mod EventLemmas
pub mod BegunLemmas
pub mod FlightLemmas
pub mod CarryLemmas
pub mod StatusLemmas
pub mod OverLemmas
pub mod OrderLemmas
pub mod Rows
mod FrameLaws

mod Prelude
pub mod ItemLemmas
pub mod EndLemmas
pub mod CarryLemmas
pub mod FinishLemmas

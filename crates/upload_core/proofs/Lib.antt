mod Prelude
pub mod Beginning
pub mod Looking
pub mod Numbers
pub mod RowLemmas
pub mod Staying
pub mod Windows
pub mod Walks
pub mod Candidates
pub mod Standing
pub mod Phases
pub mod Settling
pub mod Hearing

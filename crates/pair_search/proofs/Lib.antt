mod Prelude
pub mod Firsts
pub mod Halves
pub mod Trees
pub mod SearchLaws
pub mod Counted
pub mod Fleets
pub mod Marks
pub mod Axes
pub mod LaneLemmas
pub mod Reaches
pub mod Waits
pub mod OppositeLemmas
pub mod ShortLemmas
pub mod EndLemmas
pub mod HighBits

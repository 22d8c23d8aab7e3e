mod Prelude
pub mod StudyLemmas
pub mod BlockedLemmas
pub mod ListingLemmas
pub mod DecidingLemmas
pub mod RegionLemmas
pub mod SpeedLemmas
pub mod DynamicsLemmas
pub mod FindingLemmas
pub mod BoxesLemmas
pub mod StudyLaws

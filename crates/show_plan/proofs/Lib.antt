mod Prelude
pub mod Flight
pub mod Sendable
pub mod Valid
pub mod Separated
pub mod SeparationLaws
pub mod Certified
pub mod PlanLines
pub mod PlanTexts
pub mod Landing
pub mod Uploading
pub mod Uploadable
pub mod PacketLines
pub mod Clearances

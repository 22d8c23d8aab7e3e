mod Prelude
pub mod OrdersTo
mod Choices
mod Telling
pub mod Beginning
mod Rises
mod Turns
mod Ending
mod Alarms
mod Flown
mod Quiet
pub mod Sightings
pub mod Shows
pub mod Kept
mod Holds
mod Planned
mod Drawn
mod Ours
pub mod Rooms
mod Outside
mod Hears
mod Wanted
mod MutantRows

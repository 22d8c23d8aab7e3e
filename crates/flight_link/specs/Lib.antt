pub mod Sends
pub mod Flights
pub mod Orders
pub mod Steps
pub mod Frames

pub mod Flights
pub mod Exchanges
pub mod Frames
pub mod Direct
pub mod Steps

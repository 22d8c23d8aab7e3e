pub mod Uploads
pub mod Rows
pub mod HostState
pub mod HostStandsFor
pub mod Steps

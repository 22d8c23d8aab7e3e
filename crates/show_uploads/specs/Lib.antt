pub mod Sessions
pub mod Rehearse
pub mod Upload
pub mod Ready

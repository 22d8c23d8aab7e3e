pub mod Limits
pub mod Numbers
pub mod Sums
pub mod Bernstein
pub mod Moments
pub mod Decoded
pub mod Near

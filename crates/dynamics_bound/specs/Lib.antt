pub mod Accelerations
pub mod Edges
pub mod Excesses
pub mod Motions
pub mod Lines
pub mod Steps

mod Prelude
pub mod Tangents
pub mod Parts
pub mod Segments
pub mod Edges
pub mod Ends
pub mod Velocities
pub mod Walks
pub mod Greatest
pub mod Excesses
pub mod Motions
mod Rows

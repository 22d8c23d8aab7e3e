pub mod ReadingLaws
pub mod ChunkLaws
pub mod CommandLaws

mod Prelude
pub mod Walks
pub mod Judged
pub mod Counted
pub mod Rejections
mod Spans

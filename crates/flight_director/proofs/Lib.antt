mod Prelude
mod Walks

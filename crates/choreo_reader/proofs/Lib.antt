mod Prelude
pub mod Opened
pub mod OneLine
pub mod Items
pub mod Allowed
pub mod Complete
pub mod CompleteShow
pub mod Sound
pub mod Faulty
pub mod ValidShow

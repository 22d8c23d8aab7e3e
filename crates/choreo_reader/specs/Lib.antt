pub mod Text
pub mod Steps
pub mod Grammar
pub mod Context
pub mod Reading
pub mod Reader
pub mod Laws

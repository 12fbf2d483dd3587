pub mod Reading
pub mod Settings

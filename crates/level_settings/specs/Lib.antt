pub mod Settings
pub mod inner

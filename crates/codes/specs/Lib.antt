pub mod Codes
pub mod Told
pub mod Calls
pub mod inner

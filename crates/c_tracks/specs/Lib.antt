pub mod Asked
pub mod Calls
pub mod Steps
pub mod Told
pub mod inner

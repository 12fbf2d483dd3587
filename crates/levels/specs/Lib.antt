pub mod Levels
pub mod inner

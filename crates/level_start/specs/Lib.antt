pub mod Begun
pub mod inner

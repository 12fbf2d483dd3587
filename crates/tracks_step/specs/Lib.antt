pub mod Promises
pub mod inner

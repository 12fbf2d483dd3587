pub mod Open
pub mod inner

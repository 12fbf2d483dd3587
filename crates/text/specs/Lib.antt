pub mod Text
pub mod Lists
pub mod Bytes
pub mod inner

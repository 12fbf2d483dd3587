pub mod Open
pub mod Trying

pub mod Sheet
pub mod Promises

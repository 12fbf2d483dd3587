pub mod Known
pub mod Calls
pub mod Told

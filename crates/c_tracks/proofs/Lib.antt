pub mod Known
pub mod Opened
pub mod Stepped

pub mod Progress
pub mod Calls

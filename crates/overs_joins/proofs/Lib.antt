mod Examples
pub mod Signal
pub mod Joins

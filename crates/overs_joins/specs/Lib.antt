pub mod Signal
pub mod Joins

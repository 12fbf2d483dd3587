pub mod Slices
pub mod Steps

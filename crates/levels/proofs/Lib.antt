pub mod Frames
pub mod Whole
mod Reports
mod States

pub mod Blocks
pub mod Jobs

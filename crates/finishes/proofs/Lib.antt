pub mod Counts
pub mod DueFirst
pub mod Best
mod Examples

pub mod Stats
pub mod Converters
pub mod Steps
pub mod Exact

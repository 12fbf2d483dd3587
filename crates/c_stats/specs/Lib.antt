pub mod Stats
pub mod Conversions

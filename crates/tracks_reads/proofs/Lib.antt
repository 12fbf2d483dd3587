pub mod Stretches
pub mod Ahead

pub mod Turns
pub mod Bands

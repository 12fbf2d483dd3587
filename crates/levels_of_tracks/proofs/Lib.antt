pub mod Frames
pub mod Levels
pub mod CanBeMet

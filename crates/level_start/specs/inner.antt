pub mod Begun
pub mod Usable

pub mod Windows
pub mod Asked
pub mod Samples

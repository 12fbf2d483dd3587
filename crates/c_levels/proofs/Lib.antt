pub mod Done
pub mod Parts
pub mod Carried

pub mod Codes
pub mod Frames
pub mod Sizes

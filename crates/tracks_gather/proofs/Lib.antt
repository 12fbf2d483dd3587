pub mod Frames
pub mod Stretches
pub mod Going

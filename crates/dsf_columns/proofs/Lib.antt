pub mod Turned
pub mod Blocks
pub mod Strides

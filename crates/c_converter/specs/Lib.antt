pub mod Blocks
pub mod inner

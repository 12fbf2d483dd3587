pub mod Channels
pub mod Buffers
pub mod Pieces

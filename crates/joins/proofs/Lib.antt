pub mod Pieces
pub mod Bytes
pub mod Statistics
pub mod Joins
pub mod Instance

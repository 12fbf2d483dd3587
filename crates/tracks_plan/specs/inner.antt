pub mod Asked
pub mod Reads

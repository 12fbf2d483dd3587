pub mod Pairs
pub mod Places

pub mod Places
pub mod Written
pub mod Rewritten
pub mod Writing
pub mod Stretches

pub mod Widths
pub mod Places
pub mod Lines

pub mod Places
pub mod Pairs
pub mod Bias
pub mod Signals
pub mod Totals
pub mod Tables
pub mod Seconds

pub mod Placing
pub mod Putting

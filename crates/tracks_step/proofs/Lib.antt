pub mod Asking
pub mod Slicing
pub mod Working

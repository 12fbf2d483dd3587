pub mod Converting
pub mod Theorems
pub mod Joined
pub mod Calls

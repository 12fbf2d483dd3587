pub mod Promises
pub mod Joined
pub mod Theorems

pub mod Standings
pub mod Calls
pub mod Theorems

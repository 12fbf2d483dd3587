pub mod Written
pub mod Theorems
pub mod inner

pub mod Plan
pub mod Reads
pub mod Theorems
pub mod Writes
pub mod inner

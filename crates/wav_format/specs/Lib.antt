pub mod Wav
pub mod Places
pub mod Promises
pub mod Theorems
pub mod inner

pub mod Dsf
pub mod Reading
pub mod Headers
pub mod Theorems
pub mod inner

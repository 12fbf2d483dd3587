pub mod Uploads
pub mod Deciding
pub mod Theorems

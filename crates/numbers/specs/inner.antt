pub mod Extremes
pub mod Lists
pub mod Parts

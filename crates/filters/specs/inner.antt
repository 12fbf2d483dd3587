pub mod Filters
pub mod Biases

pub mod Arrays
pub mod Filters
pub mod Routes
pub mod Props

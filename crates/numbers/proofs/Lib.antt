pub mod Integers
pub mod Lists
pub mod Sums
pub mod Machine
pub mod Tests
pub mod Extremes
pub mod Arrays
pub mod Pieces

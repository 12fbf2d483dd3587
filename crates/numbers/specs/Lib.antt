pub mod Sums
pub mod Lists
pub mod Extremes
pub mod Tests
pub mod inner

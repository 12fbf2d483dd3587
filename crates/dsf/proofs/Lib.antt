pub mod Alike
pub mod Numbers
pub mod Accepted
pub mod Tests
pub mod Head
pub mod Headers
pub mod Sizes

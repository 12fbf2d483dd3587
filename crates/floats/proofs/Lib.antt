pub mod Closest
pub mod Bound
pub mod Middle
pub mod Eighth
pub mod Interval
pub mod Nearest

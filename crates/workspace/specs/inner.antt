pub mod Accepted
pub mod Bound

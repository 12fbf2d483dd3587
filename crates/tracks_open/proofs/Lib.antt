pub mod Accepted
pub mod Bounds
pub mod Following
pub mod Heads
pub mod Opening
pub mod Trying

pub mod Sign
pub mod Reach
pub mod Records
pub mod Tallies
pub mod Scaling
pub mod Order

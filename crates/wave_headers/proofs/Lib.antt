pub mod Choosing
pub mod Putting
pub mod Writing
pub mod Laws

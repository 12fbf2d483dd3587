pub mod Dsf
pub mod Orders

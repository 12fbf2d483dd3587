pub mod Accepted
pub mod Printing

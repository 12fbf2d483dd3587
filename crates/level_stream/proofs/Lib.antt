pub mod Prints
pub mod Reporting

pub mod Arrays
pub mod Entries
pub mod First
pub mod Smalls

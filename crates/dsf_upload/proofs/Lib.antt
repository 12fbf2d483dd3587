pub mod Open
pub mod Hopeful
pub mod Completed
pub mod Early
pub mod Beginnings
pub mod Joined

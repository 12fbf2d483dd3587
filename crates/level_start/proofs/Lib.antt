pub mod Opening
pub mod Line

pub mod Negated
pub mod Gains
pub mod Words
pub mod Fields

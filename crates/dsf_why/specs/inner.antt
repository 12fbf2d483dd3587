pub mod Fields
pub mod Why

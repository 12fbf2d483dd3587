pub mod Why
pub mod inner

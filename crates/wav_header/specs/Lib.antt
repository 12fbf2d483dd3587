pub mod Header
pub mod inner

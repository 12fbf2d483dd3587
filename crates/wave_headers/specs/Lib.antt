pub mod Speakers
pub mod Headers
pub mod Choice
pub mod Promises
pub mod Fields
pub mod Laws
pub mod inner

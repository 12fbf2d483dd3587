pub mod Tallies
pub mod Scale
pub mod inner

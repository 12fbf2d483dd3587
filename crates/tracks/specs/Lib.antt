pub mod Runs
pub mod Tracks
pub mod TracksToFiles
pub mod Windows
pub mod OneTrack
pub mod inner

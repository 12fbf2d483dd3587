pub mod Same
pub mod Answers

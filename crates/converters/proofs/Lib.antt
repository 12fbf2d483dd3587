pub mod Steps
mod Changes
mod Opened

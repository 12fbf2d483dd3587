mod Passed
mod Turns

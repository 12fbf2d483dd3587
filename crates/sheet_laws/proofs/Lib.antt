pub mod Fitting
pub mod Runs

pub mod Decibels

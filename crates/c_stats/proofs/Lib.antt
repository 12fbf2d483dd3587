pub mod Conversions

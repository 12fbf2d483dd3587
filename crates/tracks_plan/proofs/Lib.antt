pub mod Amounts
pub mod Offsets
pub mod Pieces
pub mod Sizes
pub mod Stretches
pub mod Within

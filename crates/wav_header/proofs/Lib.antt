pub mod ThreeParts

pub mod Cutting
pub mod Sizes
pub mod Summing

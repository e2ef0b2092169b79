pub mod Decimals
pub mod Frees
pub mod Digits
pub mod Cut
pub mod Back

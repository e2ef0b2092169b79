pub mod Grows
pub mod Skips

pub mod Files
pub mod Outcomes
pub mod Declared
pub mod Shown

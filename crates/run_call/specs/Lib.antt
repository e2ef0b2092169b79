pub mod Modes
pub mod Runs
pub mod Ending
pub mod Progress

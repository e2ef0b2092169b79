pub mod Sent
pub mod Kept
pub mod Ran
pub mod Rowed

pub mod Batch
pub mod Called
pub mod Gathered
pub mod Ran
pub mod Handed

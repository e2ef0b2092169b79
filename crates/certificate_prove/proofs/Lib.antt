pub mod Opening
pub mod Writing
pub mod Stuck
pub mod Splitting

pub mod Crossing
pub mod Once
pub mod Placing
pub mod Batching
pub mod Joining
pub mod Chunked
pub mod Rounding
pub mod Finishing

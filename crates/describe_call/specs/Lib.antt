pub mod Hashing
pub mod Describing
pub mod Described

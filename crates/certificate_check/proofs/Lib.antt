pub mod Adding
pub mod Rows
pub mod Doing
pub mod Splitting
pub mod Taking
pub mod Vectors

pub mod Adding
pub mod Tasks
pub mod Checking
pub mod Naming

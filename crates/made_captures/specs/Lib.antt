pub mod Records
pub mod Captures
pub mod Told
pub mod Outputs
pub mod Laws

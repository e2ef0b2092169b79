pub mod Setups
pub mod Sharded
pub mod Reading
pub mod Answered
pub mod Going
pub mod Passing
pub mod Lawful
pub mod Laws

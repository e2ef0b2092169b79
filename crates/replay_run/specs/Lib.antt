pub mod Outputs
pub mod Queues
pub mod Replaying
pub mod Turns
pub mod Heads
pub mod Laws
pub mod Given

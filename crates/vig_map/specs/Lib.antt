pub mod Bindings
pub mod Hashes
pub mod Slots
pub mod Sound

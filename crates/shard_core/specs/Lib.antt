pub mod Fifos
pub mod Held
pub mod Sharded
pub mod Keyed
pub mod Plays
pub mod Apart
pub mod Finished

pub mod Dealing
pub mod Working
pub mod RunResult
pub mod Sharing

pub mod Calls
pub mod Events
pub mod Histories
pub mod Steps
pub mod Replays
pub mod Logs
pub mod Bridge

pub mod Compared
pub mod Kept
pub mod Apart
pub mod Keyed
pub mod Runs
pub mod Ends
pub mod Heads
mod Left
mod Ports
mod Fetching
mod Finishing
mod Orders
mod Accepted
mod Judged

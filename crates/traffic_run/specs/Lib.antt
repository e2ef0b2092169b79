pub mod TrafficSpecs
pub mod Runs
pub mod Sent
pub mod Started
pub mod Beside

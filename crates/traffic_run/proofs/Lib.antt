pub mod Over
mod Back
mod Making
pub mod Sending
mod Known
mod Headers

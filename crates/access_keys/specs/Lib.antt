pub mod Order
pub mod Together
pub mod Speaking
pub mod Reached
pub mod Shown
pub mod Told

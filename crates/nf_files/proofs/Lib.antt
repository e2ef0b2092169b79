pub mod Ranges
pub mod Given
pub mod Changed
pub mod Numbers
pub mod Standing
pub mod Told

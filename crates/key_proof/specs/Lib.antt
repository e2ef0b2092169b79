pub mod Sites
pub mod Rows
pub mod Judging
pub mod Faults
pub mod Reading
pub mod Found
pub mod Shown

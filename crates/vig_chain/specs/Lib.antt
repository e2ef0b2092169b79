pub mod Stamps
pub mod Shares
pub mod Rings
pub mod Kept

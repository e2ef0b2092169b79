pub mod Walks
mod Reading
pub mod Turns
mod Merged
pub mod Wholes
pub mod Placing
pub mod KindsBeside
pub mod Counting
pub mod Numbering

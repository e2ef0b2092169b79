pub mod Names
pub mod Objects
pub mod Verdict
pub mod Rows

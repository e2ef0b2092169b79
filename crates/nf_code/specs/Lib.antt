pub mod Code
pub mod Followed
pub mod Alike
pub mod Ready

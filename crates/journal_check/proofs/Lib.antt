mod Granted
pub mod Judged

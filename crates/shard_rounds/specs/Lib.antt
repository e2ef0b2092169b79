pub mod Workings
pub mod Rounds
pub mod Laws
pub mod Rows

pub mod Handled
pub mod Placed
pub mod Tied
pub mod Unkept
pub mod One

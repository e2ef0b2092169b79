pub mod Texts
pub mod Written
pub mod Leaving
pub mod Proving

pub mod Short
pub mod Firsts
pub mod Standing

pub mod Journals
pub mod Firsts
pub mod Held

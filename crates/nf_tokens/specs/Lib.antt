pub mod Signs
pub mod Bytes
pub mod Numbers
pub mod Words
pub mod Tokens

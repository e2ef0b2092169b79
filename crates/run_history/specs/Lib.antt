pub mod Headings
pub mod Line
pub mod Lines
pub mod Reading
pub mod Laws
pub mod StateText
pub mod Room

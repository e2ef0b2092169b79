pub mod Adding
pub mod Refuting
pub mod Listing
pub mod Answering
pub mod Lines
pub mod Leaves
pub mod Growing
pub mod Telling

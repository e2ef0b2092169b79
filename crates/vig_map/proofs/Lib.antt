pub mod SlotLemmas
pub mod Values
pub mod Searches
pub mod Gaps
pub mod Keeping

pub mod Sums
pub mod Words
pub mod Equations
pub mod Solutions
pub mod Laws
pub mod Kept
pub mod Searches

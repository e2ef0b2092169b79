pub mod Orders
pub mod Calls
pub mod Going
pub mod Numbers
pub mod Places
pub mod Playing
pub mod Sights
pub mod Logging

pub mod Keys
pub mod Verdicts
pub mod Laws
pub mod Causes

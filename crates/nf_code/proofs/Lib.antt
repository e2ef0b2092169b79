pub mod Places
pub mod Linked
pub mod Kept
pub mod GoesOn
pub mod Begun
pub mod AtDoor

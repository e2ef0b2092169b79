pub mod Dealt
pub mod Placed
pub mod Joined
pub mod Crossing

pub mod Values
pub mod Asking
pub mod Blocks
pub mod Declared

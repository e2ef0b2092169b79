pub mod Numbers
pub mod Ends
pub mod Frames
pub mod Traffic
pub mod Laws
pub mod Rows

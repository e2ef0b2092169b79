pub mod Tree
pub mod Depth
pub mod BlockView
pub mod View

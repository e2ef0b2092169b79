pub mod Grammar
pub mod Made
pub mod Texts
pub mod Commands
pub mod View

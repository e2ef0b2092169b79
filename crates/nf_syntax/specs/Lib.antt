pub mod Items
pub mod Expressions
pub mod Grammar
pub mod Statements
pub mod Machine
pub mod Reads
pub mod Language

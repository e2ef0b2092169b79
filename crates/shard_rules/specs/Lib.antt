pub mod Sites
pub mod Rules
pub mod Once
pub mod Places
pub mod Plans
pub mod Laws
pub mod Served
pub mod Rows

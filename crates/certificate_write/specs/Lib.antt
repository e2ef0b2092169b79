pub mod Texts
pub mod Sayable
pub mod Laws

pub mod Causing
pub mod Headline

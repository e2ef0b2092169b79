pub mod Judgements
pub mod Certifying

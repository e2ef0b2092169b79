pub mod Bits
pub mod Toeplitz
pub mod Packets
pub mod Meeting
pub mod Laws
pub mod Suite
pub mod DefaultKey

pub mod Declares

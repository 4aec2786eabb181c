pub mod Decode
pub mod Shown

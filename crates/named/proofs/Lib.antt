pub mod Named
pub mod Held

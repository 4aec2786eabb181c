pub mod NamedRun
pub mod Counter
pub mod Tickets
pub mod Table
pub mod Held

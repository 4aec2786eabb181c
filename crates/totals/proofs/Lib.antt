pub mod Adding
pub mod Grouping
pub mod CardSums
pub mod Given
pub mod TotalsMeaning

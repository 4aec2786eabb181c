pub mod Totals
pub mod TotalsMeaning

-- 000 Figure 5, with values
pub mod Layer
pub mod Events
-- what it means that a serial order explains a run, and which order does
pub mod Explains
pub mod Key
pub mod SequentialConsistency
-- and that all holders of a register apply its updates in it
pub mod OneOrder

-- The ten steps
pub mod Requests
pub mod Perform
pub mod Send
pub mod Traffic
pub mod Deliver
pub mod Step
-- What is demanded of the steps
pub mod Demand2
pub mod StepResults
pub mod Run
pub mod Demand3
pub mod Starts
-- Refusal 6 for the state, kind by kind
pub mod IllStates
-- Limits met exactly
pub mod LimitRuns
pub mod LimitSteps
-- The steps and the demands with the copies side by side, as they lie in the memory
pub mod SideBySide
-- Stores alike but for where the copies lie
pub mod Match

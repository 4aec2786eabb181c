-- What the functions' answers need
pub mod Numbers
-- The channel's calls as the registers see them
pub mod OverChannel
-- Each of the ten steps follows the algorithm that the store runs
pub mod Standing
pub mod RequestLaw
pub mod PerformLaw
pub mod Posting
pub mod SendLaw
pub mod TrafficLaw
pub mod DeliverLaw
pub mod StepLaw
-- The start
pub mod Placed
pub mod StartLaw
-- Demands 2 and 3, and never 6
pub mod SomeState
pub mod Demand2
pub mod StepResults
pub mod Demand3
pub mod NeverSix
pub mod NeverTwentyThree
pub mod CheckedOnce
-- Refusal 6 for the state, kind by kind
pub mod IllStates
-- Limits met exactly
pub mod LimitRuns
pub mod LimitSteps
-- Stores alike but for where the copies lie
pub mod MatchSteps
pub mod MatchStore
-- The demands with the copies side by side
pub mod SideBySide
pub mod ResultsSideBySide
pub mod LimitsSideBySide

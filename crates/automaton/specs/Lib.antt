-- The channel's state and operations (RULES 5.6 to 5.9) and their refusals
pub mod Mail
pub mod State
pub mod Renaming
pub mod MostBehind
pub mod Refusals
pub mod RefusalMeanings
pub mod Holding
pub mod HoldingMeaning
-- 000 §6: the automaton, the order T, and the steps that an operation is
pub mod Network
pub mod Automaton
pub mod TotalOrder
pub mod Trace
-- Any list of calls: what is claimed of it
pub mod Calls
pub mod AtRest
pub mod Examples
pub mod LimitExamples

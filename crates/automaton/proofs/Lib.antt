-- The automaton of 000 §6 keeps the promise
pub mod Counts
pub mod InboxHistory
pub mod Joining
pub mod Times
pub mod InboxOrder
pub mod Integrity
pub mod Rank
pub mod ReceiveConsistency
pub mod ContextSafety
pub mod Distinct
pub mod KeepsPromise
-- The order T, and the paper's wording
pub mod RankOrder
pub mod SameOrder
pub mod PaperWording
-- The channel's state keeps step with the automaton
pub mod Held
pub mod Agreement
pub mod JoinLists
pub mod DispatchKeeps
pub mod TakeBroadcastKeeps
pub mod TakeSingleKeeps
pub mod DeliverKeeps
pub mod ChannelKeeps
pub mod Arrivals
pub mod NothingLost
pub mod Delivered
pub mod Prompt
-- The same under other names
pub mod RenamedLists
pub mod RenamedSteps
pub mod RenamedRefusals
-- Any list of calls
pub mod Postings
pub mod CallsKeepPromise
pub mod CallsEvents
pub mod CallsEpoch
pub mod CallsComplete
-- What the refusals say
pub mod KeepsUp
pub mod ReleasedLists
pub mod RefusalsMean
pub mod RefusalsSmall
pub mod HoldingMeaning

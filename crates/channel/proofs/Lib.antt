-- Comparisons
pub mod Orders
-- What each operation does to the memory is what it does to the idealised state
pub mod InboxRing
pub mod LetterFits
pub mod SizedFacts
pub mod Frame
pub mod Release
pub mod Receiving
pub mod Taking
pub mod TakeBroadcastLaw
pub mod HeldMore
pub mod Landing
pub mod TakeSingleLaw
pub mod BroadcastRing
pub mod Sending
pub mod AnswerNumbers
pub mod DispatchLaw
pub mod Destinations
pub mod BeginLaw
-- Each operation keeps the memory well sized
pub mod WellSizedParts
pub mod FitQueues
pub mod FitRelease
pub mod FitKept
pub mod SizedReceive
pub mod SizedTakeBroadcast
pub mod SizedTakeSingle
pub mod SizedDispatch
-- A memory is ill sized exactly if one of the listed kinds holds
pub mod IllSized
-- Any list of calls on a memory
pub mod CallLaws
pub mod RunLaw
pub mod ChannelLaw
pub mod MemoryExamples
-- What a layer above may use
pub mod Offered
pub mod OfferedCalls

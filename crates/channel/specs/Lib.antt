-- The lent memory: where things lie, and what each function does to the words
pub mod Layout
pub mod Letters
pub mod Answers
pub mod Begin
pub mod Inbox
pub mod TakeBroadcast
pub mod TakeSingle
pub mod Dispatch
pub mod Sized
pub mod IllSized
pub mod BroadcastRing
pub mod BehindExamples
-- What a memory shows of the idealised state, and what is claimed of any list of calls on it
pub mod Shows
pub mod Results
pub mod MemoryCalls

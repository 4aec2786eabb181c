-- Sequential consistency of the register layer over any channel that keeps its promise.
pub mod Statuses
pub mod Ordered
pub mod Requests
pub mod Messages
pub mod Finished
pub mod Reported
pub mod Applied
pub mod Copies
pub mod Points
pub mod KeyOrder
pub mod Laws
pub mod Serial
pub mod Values
pub mod SequentialConsistency
pub mod OneOrder
pub mod Fresh
pub mod Mistakes

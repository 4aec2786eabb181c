-- Where things lie, what a task is doing, the outboxes
pub mod Layout
pub mod Doings
pub mod Outbox
-- Refusal 6 for the state, the start, and what a panel shows
pub mod Sized
pub mod Start
pub mod Panel
-- What the memories show
pub mod Shows
-- The copies as they lie in the memory, and memories alike but for where they lie
pub mod SideBySide
pub mod Match
-- What a panel shows, and where the copies lie, said apart
pub mod PanelMeaning

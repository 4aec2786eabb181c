-- What each change of the registers' memory does to what it shows, and that it keeps it well sized
pub mod Words
pub mod Showing
pub mod AskedFits
pub mod Sizing
-- Memories that are alike but for where the copies lie
pub mod Layouts
pub mod Match
pub mod MatchReads
pub mod MatchWrites
-- What a panel shows, and where the copies lie, said apart
pub mod PanelMeaning
pub mod SideBySide

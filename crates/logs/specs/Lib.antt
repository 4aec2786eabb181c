pub mod Log
pub mod LogMeaning
pub mod LogExample
pub mod Entries
pub mod Logged
pub mod FileLog

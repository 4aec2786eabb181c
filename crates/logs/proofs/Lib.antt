pub mod LedgerLog
pub mod StepEntries
pub mod LogTables
pub mod FileLogLaw
pub mod LogMeaning
pub mod LogExample

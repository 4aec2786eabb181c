pub mod RunFile
pub mod AnswerFile
pub mod Head
pub mod Compose
-- What they mean, stated apart from the definitions
pub mod FileMeaning
pub mod AnswerMeaning
pub mod ComposeMeaning
-- Whole runs
pub mod Run
pub mod Stepwise
pub mod FileRun

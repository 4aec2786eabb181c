pub mod LoadSteps
pub mod LoadTables
pub mod ClosedForm
pub mod StepCommands
pub mod WellFormed
pub mod LoadMeaning

pub mod RunTally
pub mod StepTally
pub mod Value

pub mod RunTallyLaws
pub mod StepTallyLaws

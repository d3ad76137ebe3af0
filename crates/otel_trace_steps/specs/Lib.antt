pub mod StepAnswers
pub mod StepLines
pub mod StepTexts

pub mod JoinedSteps
pub mod StepFields
pub mod StepFollowing
pub mod StepTexts

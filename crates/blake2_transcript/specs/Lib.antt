pub mod Transcript
pub mod StepViews
pub mod Witness
pub mod Reader

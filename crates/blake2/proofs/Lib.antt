pub mod CoreSteps
pub mod StateLaws
pub mod Streaming

pub mod DealtStripes
pub mod LongerRuns
pub mod ListsByElement
pub mod LeafSteps
pub mod LeafEnds
pub mod LeafStarts
pub mod RootDigests
pub mod StateLaws

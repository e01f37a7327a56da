pub mod JoinedLists
pub mod OutputBlocks
pub mod ReadInPieces
pub mod TextFields
pub mod StateLaws
pub mod Derivations
pub mod KnownOutputs

pub mod Parallel
pub mod LeafStates
pub mod States
pub mod Blake2bp
pub mod Blake2sp
pub mod HasherMeanings

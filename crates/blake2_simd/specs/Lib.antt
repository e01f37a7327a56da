pub use Rattle.blake2_digest.specs.Blocks
pub use Rattle.blake2_digest.specs.Texts
pub mod Family
pub mod Round
pub mod Rows
pub mod Lanes

pub mod Xof
pub mod States
pub mod Blake2xb
pub mod Blake2xs

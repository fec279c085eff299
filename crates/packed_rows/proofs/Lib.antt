-- Laws that the proofs of this crate and of regression cite.
pub mod Falling
pub mod Places
pub mod Begun
pub mod Run

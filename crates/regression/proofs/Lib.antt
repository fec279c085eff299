-- Laws that the proofs of this crate and of the crates above cite.
pub mod Laws
pub mod FallingLayout
pub mod Triangle
pub mod Visited
pub mod Gained
pub mod Walk
pub mod Dot
pub mod Unfolding
pub mod Workspace

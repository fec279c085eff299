-- Laws that the proofs of this crate and of the crates above cite.
pub mod Outcomes
pub mod Rows
pub mod CheckLaws
pub mod Accepted
pub mod Parts
pub mod Filling

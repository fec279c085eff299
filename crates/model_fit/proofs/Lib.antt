-- Laws that the proofs of this crate and of the crates above cite.
pub mod Laws
pub mod RowLaws
pub mod Status
pub mod Fit
pub mod Finite

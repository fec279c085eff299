-- What the proofs of `retention_alignment` share.
pub mod Absent
pub mod Rows
pub mod Longest
pub mod Smallest
pub mod Calls

-- What the proofs of `align_text` share, and the laws that other crates cite.
pub mod Aligning
pub mod Answers
pub mod Contract
pub mod Examples
pub mod Longest
pub mod MoreFiles
pub mod Statuses

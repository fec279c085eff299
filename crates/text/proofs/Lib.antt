-- What the proofs of `text` share, and the laws that other crates cite.
pub mod Cases
pub mod Lists
pub mod Decimals
pub mod Lines
pub mod Numbers
pub mod Answers
pub mod Places
pub mod Writing

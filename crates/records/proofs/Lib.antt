-- What the proofs of `records` share.
pub mod Calls

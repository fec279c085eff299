-- What the proofs of `align_output` share, and the laws that other crates cite.
pub mod Lengths
pub mod PrintedColumns

-- What the alignment gives. Definitions only.
pub mod Observation
pub mod Alignments
pub mod Call

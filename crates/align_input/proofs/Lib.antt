-- What the proofs of `align_input` share, and the theorem about its grammar.
pub mod Grammar
pub mod RowLines
pub mod Rows

-- Document 01's examples, over the definitions of the crates below.
pub mod Examples

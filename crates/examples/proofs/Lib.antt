-- The theorem about document 01's examples.
pub mod Examples

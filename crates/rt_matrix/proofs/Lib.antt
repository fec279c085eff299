-- What the proofs of `rt_matrix` share.
pub mod Lists
pub mod Row
pub mod Peptides
pub mod Columns
pub mod RecordColumns
pub mod RecordsOf
pub mod Fitted
pub mod Used

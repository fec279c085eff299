-- What a run gives, from the training rows, the peptide table and the longest times; and the call of `run`.
pub mod Fitted
pub mod Call
pub mod Parts

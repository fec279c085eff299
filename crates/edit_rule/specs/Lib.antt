-- The rule about edits outside the training set: the ends that it is about, and what it supposes and claims of them,
-- with one peptide table, where the peptide tables differ, and for a host's own peptide numbers. Definitions only.
pub mod Ends
pub mod EditsOutside
pub mod Peptides
pub mod Host

-- The rule about edits: what an end shows (`Written`, `Shown`), where the peptide tables differ (`Peptides`, over
-- `Renumbered`, `Matching` and `Records`), demand 3 itself (`EditsOutside`), a host's numbers (`Host`), and an example.
pub mod Width
pub mod Written
pub mod Shown
pub mod Renumbered
pub mod Matching
pub mod Records
pub mod Peptides
pub mod EditsOutside
pub mod Host
pub mod Example

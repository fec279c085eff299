-- What the part of the program that aligns asks: columns of one length within the program's limits.
-- Definitions only.
use Rattle.std.specs.Prelude.{◌≤◌, ◌≡◌, length}
use Rattle.retention_alignment.specs.Call as Call
use Rattle.align_text.specs.AlignText.{max_files, max_peptides, max_rows}

pub record Ready (i : Call.Input) : Type 0 where
  pub peptide : length i.peptide ≡ length i.file
  pub label : length i.label ≡ length i.file
  pub q : length i.q ≡ length i.file
  pub rt : length i.rt ≡ length i.file
  pub some_files : 1 ≤ i.files
  pub files : i.files ≤ max_files
  pub peptides : i.peptides ≤ max_peptides
  pub rows : length i.file ≤ max_rows

-- The columns that rows are stored in. Definitions only.
use Rattle.std.specs.Prelude.{ℕ, ◌≡◌, List, map, length, set, ℤ, Float}
use Rattle.std.specs.Borrow.{MutBor}
use Rattle.params.specs.Slice.{Change}
use Rattle.std.proofs.lemmas.List.Edits.{sets}
use Rattle.std.specs.Float.{binary32}
use Rattle.std.specs.Float.Ieee.{of_bits}
use Rattle.align_input.specs.declared.TextRow.{TextRow}
use Rattle.align_input.specs.declared.Sizes.{Sizes}
use Rattle.align_input.specs.declared.Columns.{Columns as Slices}
use Rattle.align_input.specs.Input.{Input}

abbrev pub sizes_of : Input → Sizes
sizes_of d = record { files = d.files; peptides = d.peptides; rows = length d.rows }

-- the f32 of a pattern
abbrev pub q_of : TextRow → Float
q_of r = of_bits binary32 r.q

abbrev pub rt_of : TextRow → Float
rt_of r = of_bits binary32 r.rt

-- five columns of rows: a list for each field
pub record Columns : Type 0 where
  pub file : List ℕ
  pub peptide : List ℕ
  pub label : List ℤ
  pub q : List Float
  pub rt : List Float

-- what the slices hold
abbrev pub held_rows : Slices → Columns
held_rows c = record { file = c.file.now; peptide = c.peptide.now; label = c.label.now; q = c.q.now; rt = c.rt.now }

-- each slice is the one that was lent
abbrev pub SameNames : (before after : Slices) → Type 0
SameNames before after =
    (after.file.ghost_name ≡ before.file.ghost_name)
    × (after.peptide.ghost_name ≡ before.peptide.ghost_name)
    × (after.label.ghost_name ≡ before.label.ghost_name)
    × (after.q.ghost_name ≡ before.q.ghost_name)
    × (after.rt.ghost_name ≡ before.rt.ghost_name)

abbrev pub SameSlices : Change (MutBor Slices) → Type 0
SameSlices c = SameNames c.entry.now c.exit.now

-- the columns' lengths stay
pub record Same (before after : Columns) : Type 0 where
  pub file : length after.file ≡ length before.file
  pub peptide : length after.peptide ≡ length before.peptide
  pub label : length after.label ≡ length before.label
  pub q : length after.q ≡ length before.q
  pub rt : length after.rt ≡ length before.rt

-- a row stored in the i-th cells, if there are such cells
abbrev pub stored_row : Columns → ℕ → TextRow → Columns
stored_row c i r =
    record {
      file = set c.file i r.file;
      peptide = set c.peptide i r.peptide;
      label = set c.label i r.label;
      q = set c.q i (q_of r);
      rt = set c.rt i (rt_of r);
    }

-- rows stored in columns from the i-th cell on, as many as there is room for
abbrev pub stored : Columns → ℕ → List TextRow → Columns
stored c i rows =
    record {
      file = sets c.file i (map (λ (r : TextRow). r.file) rows);
      peptide = sets c.peptide i (map (λ (r : TextRow). r.peptide) rows);
      label = sets c.label i (map (λ (r : TextRow). r.label) rows);
      q = sets c.q i (map q_of rows);
      rt = sets c.rt i (map rt_of rows);
    }

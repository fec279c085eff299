-- A call of `global_alignment`: its status, and what it leaves in every slice. Definitions only.
use Rattle.std.specs.Prelude.{◌≡◌, Bool, ◌&&◌, List, [], ◌∷◌, map, ℕ, ◌*◌, leb, ℤ, length, replicate, Float}
use Rattle.std.specs.Prelude.{⊤, Result, Ok, Err}
use Rattle.std.specs.Borrow.{Bor}
use Rattle.params.specs.Slice.{Held, MutHeld, Change, change, Slice, MutSlice}
use Rattle.float.specs.Number.{zero64}
use Rattle.matrix.specs.Lists.{overwritten}
use Rattle.feature.specs.Feature.{mask, kept}
use Rattle.status.specs.Checks.{all_below, lengths_agree}
use Rattle.status.specs.Limits.{within_limits}
use Rattle.status.specs.Status.{bad_lengths, past_limit, too_short, bad_file, bad_peptide, first_failing}
use Rattle.status.specs.Status.{number_of, checked}
use Rattle.status.specs.declared.Refusal.{Refusal}
use Rattle.status.specs.Told.{Told, gives, only, if_accepted, told_for}
use Rattle.rt_matrix.specs.Columns.{FileColumns, FileRoom, columns_of, held_columns, written_over, file_room, each_long}
use Rattle.rt_matrix.specs.declared.Alignment.{Alignment}
use Rattle.rt_matrix.specs.declared.FileColumns.{FileColumns as FileSlices}
use Rattle.retention_alignment.specs.Observation.{Obs, observations, max_rts}
use Rattle.retention_alignment.specs.Alignments.{alignments, aligned}
use Rattle.retention_alignment.specs.declared.Observations.{Observations}

-- what is read: the columns, and the numbers of files and of peptides
pub record Input : Type 0 where
  pub file : List ℕ
  pub peptide : List ℕ
  pub label : List ℤ
  pub q : List Float
  pub rt : List Float
  pub files : ℕ
  pub peptides : ℕ

-- what is written: the workspace, the record of each file, and an aligned time for each row
pub record Slices : Type 0 where
  pub workspace : List Float
  pub records : FileColumns
  pub aligned : List Float

-- the lengths of the slices
pub record Room : Type 0 where
  pub workspace : ℕ
  pub records : FileRoom
  pub aligned : ℕ

-- ---- as a function's parameters hold them

-- the columns that are read, where a function takes them together
abbrev pub held_input : Observations → Input
held_input o =
    record {
      file = o.file.now;
      peptide = o.peptide.now;
      label = o.label.now;
      q = o.q.now;
      rt = o.rt.now;
      files = o.files;
      peptides = o.peptides;
    }

-- what will be written, as a function that only measures it holds it
abbrev pub held_slices : (workspace : Held Float) (records : Bor FileSlices) (aligned : Held Float) → Slices
held_slices workspace records aligned =
    record { workspace = workspace.now; records = held_columns records.now; aligned = aligned.now }

-- where it takes them one by one, in a `requires`
abbrev pub input_at : (file peptide : Held ℕ) (label : Held ℤ) (q rt : Held Float) (files peptides : ℕ) → Input
input_at file peptide label q rt files peptides =
    record {
      file = file.now;
      peptide = peptide.now;
      label = label.now;
      q = q.now;
      rt = rt.now;
      files = files;
      peptides = peptides;
    }

abbrev pub slices_at : (workspace : MutHeld Float) (records : FileColumns) (aligned : MutHeld Float) → Slices
slices_at workspace records aligned = record { workspace = workspace.now; records = records; aligned = aligned.now }

-- in an `ensures`: what is read as the call begins, and what is written as it begins and as it returns
abbrev pub input_of : (file peptide : Slice ℕ) (label : Slice ℤ) (q rt : Slice Float) (files peptides : ℕ)
    → Input
input_of file peptide label q rt files peptides =
    input_at file.entry peptide.entry label.entry q.entry rt.entry files peptides

abbrev pub slices_of : (workspace : MutSlice Float) (records : Change FileColumns) (aligned : MutSlice Float) → Change Slices
slices_of workspace records aligned =
    change
    (slices_at workspace.entry records.entry aligned.entry)
    (slices_at workspace.exit records.exit aligned.exit)

-- ---- the checks

-- the lengths of slices
abbrev pub room_of : Slices → Room
room_of s =
    record { workspace = length s.workspace; records = file_room s.records; aligned = length s.aligned }

-- the workspace has the needed cells, and the outputs a cell for each file or row
abbrev pub long_enough : (files peptides rows : ℕ) → Room → Bool
long_enough files peptides rows room =
    leb (peptides * files) room.workspace && each_long files room.records && leb rows room.aligned

-- 1, 2, 3, 4, 5
abbrev pub checks : Input → Room → List (ℕ × Bool)
checks i room =
    let rows = length i.file in
    let others = length i.peptide ∷ length i.label ∷ length i.q ∷ length i.rt ∷ [] in
    (bad_lengths, lengths_agree rows others)
    ∷ (past_limit, within_limits i.files rows i.peptides)
    ∷ (too_short, long_enough i.files i.peptides rows room)
    ∷ (bad_file, all_below i.files i.file)
    ∷ (bad_peptide, all_below i.peptides i.peptide)
    ∷ []

-- the status of the first check that fails
unfoldable pub status_by : Input → Room → ℕ
status_by i room = first_failing (checks i room)

abbrev pub status : Input → Slices → ℕ
status i s = status_by i (room_of s)

-- the columns of the rows have one length
pub record SameRows (i : Input) : Type 0 where
  pub peptide : length i.peptide ≡ length i.file
  pub label : length i.label ≡ length i.file
  pub q : length i.q ≡ length i.file
  pub rt : length i.rt ≡ length i.file

-- ---- the answer

-- what every case of it tells: an alignment has no values
abbrev pub told_by : Result ⊤ Refusal → Told (Unit {0})
told_by (Ok _) = gives tt
told_by (Err r) = only (number_of r)

-- the answer for a status
unfoldable pub answer_of : ℕ → Result ⊤ Refusal
answer_of s = checked s

-- ---- the slices

-- the rows, and those that train
abbrev pub rows : Input → List Obs
rows i = observations i.file i.peptide i.rt

abbrev pub training_rows : Input → List Obs
training_rows i = kept (mask i.label i.q) (rows i)

-- the record of each file
abbrev pub records_for : Input → List Alignment
records_for i = alignments i.files i.peptides (max_rts i.files (rows i)) (training_rows i)

-- what an accepted call leaves
unfoldable pub filled : Input → Slices → Slices
filled i s =
    record {
      workspace = overwritten (replicate (i.peptides * i.files) zero64) s.workspace;
      records = written_over (columns_of (records_for i)) s.records;
      aligned = overwritten (map (aligned (records_for i)) (rows i)) s.aligned;
    }

-- a call that passed the checks, on slices that may be longer than it needs
pub record Filled (i : Input) (s : Change Slices) : Type 0 where
  pub slices : s.exit ≡ filled i s.entry

-- what a call leaves: a refused one every slice as it was
unfoldable pub slices_after : Input → Slices → Slices
slices_after i s = if_accepted (status i s) (filled i s) s

-- The contract: the answer, what it tells, and every slice, each cell of it.
pub record Aligned (i : Input) (s : Change Slices) (r : Result ⊤ Refusal) : Type 0 where
  pub answer : r ≡ answer_of (status i s.entry)
  pub told : told_by r ≡ told_for (status i s.entry) (gives tt)
  pub slices : s.exit ≡ slices_after i s.entry

-- Document 02's No. 9: two alignments of the same rows in another order. What is supposed of them, and what is claimed.
-- Nothing is supposed of a value: NaN, infinities and both zeros are among them. Definitions only.
use Rattle.std.specs.Prelude.{◌≡◌, true, ℕ, Float, length, ⊤, Result, Ok}
use Rattle.status.specs.declared.Refusal.{Refusal}
use mathlib.Core.List.{List, map, zip, Permᴰ}
use Rattle.params.specs.Slice.{change}
use Rattle.feature.specs.Feature.{Row}
use Rattle.rt_matrix.specs.Columns.{FileColumns, records_of, first_of}
use Rattle.rt_matrix.specs.declared.Alignment.{Alignment}
use Rattle.retention_alignment.specs.Call.{Input, Slices, Aligned, room_of, long_enough}
use Rattle.run.specs.Call.{Input as RunInput, rows, peptides}
use Rattle.edit_rule.specs.Ends.{End, shown}

-- One list is a reordering of the other: the library's permutations, exchanges of neighbours at any places, as many as
-- one likes.
abbrev pub Reordered : {A : Type 0} → List A → List A → Type 0
Reordered xs ys = Permᴰ xs ys

-- ---- what is claimed of two alignments

-- what an alignment leaves beside the rows that it was passed: the columns of the files' records, and of aligned times
pub record Batch : Type 0 where
  pub rows : List Row
  pub records : FileColumns
  pub aligned : List Float

-- the record of each file, whole, in the first cells of the columns
abbrev pub records_in : (files : ℕ) → Batch → List Alignment
records_in files b = records_of (first_of files b.records)

-- each row beside its aligned time
abbrev pub timed_rows : Batch → List (Row × Float)
timed_rows b = zip b.rows b.aligned

pub record SameAlignment (files : ℕ) (a b : Batch) : Type 0 where
  -- every field of every file's record is the same, to the bit,
  pub records : records_in files b ≡ records_in files a
  -- and no file is left out;
  pub every_file : length (records_in files a) ≡ files
  -- a row and its aligned time stay together,
  pub times : Reordered (timed_rows a) (timed_rows b)
  -- and no row is left out
  pub every_row : length (timed_rows a) ≡ length a.rows

-- ---- calls of `global_alignment`

-- what a call on a list of rows is passed: five of their fields, as columns
abbrev pub passed_for : (files peptides : ℕ) → List Row → Input
passed_for files peptides rows =
    record {
      file = map (λ (r : Row). r.file) rows;
      peptide = map (λ (r : Row). r.peptide) rows;
      label = map (λ (r : Row). r.label) rows;
      q = map (λ (r : Row). r.q) rows;
      rt = map (λ (r : Row). r.rt) rows;
      files = files;
      peptides = peptides;
    }

-- the rows of an input whose columns are of one length
pub record OfRows (i : Input) : Type 0 where
  pub rows : List Row
  pub passed : i ≡ passed_for i.files i.peptides rows

-- a call on a list of rows, with slices that held anything
pub record AlignCall (files peptides : ℕ) (rows : List Row) : Type 0 where
  -- the slices as the call begins and as it returns, and the answer
  pub before : Slices
  pub after : Slices
  pub answer : Result ⊤ Refusal
  -- what the contract of `global_alignment` promises of them
  pub contract : Aligned (passed_for files peptides rows) (change before after) answer

abbrev pub batch_of : (files peptides : ℕ) (rows : List Row) → AlignCall files peptides rows → Batch
batch_of files peptides rows c = record { rows = rows; records = c.after.records; aligned = c.after.aligned }

-- of two calls, on lists of rows of which one is a reordering of the other
pub record RowOrder (files peptides : ℕ) (rows others : List Row) (a : AlignCall files peptides rows)
    (b : AlignCall files peptides others) : Type 0 where
  -- a reordering of an accepted list is accepted, with slices that are long enough,
  pub accepted_too : a.answer ≡ Ok tt
      → long_enough files peptides (length others) (room_of b.before) ≡ true → b.answer ≡ Ok tt
  -- and where both are, records and times are the same;
  pub same : a.answer ≡ Ok tt → b.answer ≡ Ok tt
      → SameAlignment files (batch_of files peptides rows a) (batch_of files peptides others b)
  -- with slices as long a list that is refused is refused in every order, with the same number
  pub answer : room_of b.before ≡ room_of a.before → b.answer ≡ a.answer

-- ---- whole runs: one call of `run`, or three calls

-- the runs were passed the same rows in another order, for as many files and peptides
pub record SortedDifferently (a b : RunInput) : Type 0 where
  pub rows : Reordered (rows a) (rows b)
  pub files : b.files ≡ a.files
  pub peptides : peptides b ≡ peptides a

-- what a run leaves of its alignment
abbrev pub batch_at : End → Batch
batch_at e =
    record { rows = rows (shown e).input; records = (shown e).records; aligned = (shown e).aligned }

-- The record of a file in a list of records, and a row's aligned time by it: what is answered, and what that tells.
-- Definitions only.
use Rattle.std.specs.Prelude.{ℕ, Bool, cond, List, [], ◌∷◌, ◌≡◌, ltb, Float, length, get_or, Result, Ok, Err}
use Rattle.status.specs.Status.{bad_file, first_failing, number_of}
use Rattle.status.specs.Told.{Told, gives, only, told_for}
use Rattle.rt_matrix.specs.declared.Alignment.{Alignment}
use Rattle.retention_alignment.specs.Alignments.{aligned_by, no_alignment}
use Rattle.status.specs.declared.Refusal.{Refusal}
use Rattle.status.specs.declared.Refusal.TheVariants.{BadFile}

-- ---- the answers

-- whether the list reaches as far as the file, and the record at its place
abbrev pub reaches : List Alignment → ℕ → Bool
reaches records file = ltb file (length records)

abbrev pub record_at : List Alignment → ℕ → Alignment
record_at records file = get_or records file no_alignment

-- the record of a file, where the list reaches that far
abbrev pub record_of : List Alignment → ℕ → Result Alignment Refusal
record_of records file = cond (reaches records file) (Ok (record_at records file)) (Err BadFile)

-- a time by what a lookup found, whatever says why it found nothing
abbrev pub time_found : {E : Type 0} → Result Alignment E → Float → Result Float E
time_found (Ok a) rt = Ok (aligned_by a rt)
time_found (Err r) rt = Err r

-- the same where a refusal of the table says it, and where a number of any kind does
abbrev pub time_by : Result Alignment Refusal → Float → Result Float Refusal
time_by found rt = time_found found rt

abbrev pub time_by_number : Result Alignment ℕ → Float → Result Float ℕ
time_by_number found rt = time_found found rt

-- ---- what every case of an answer tells

abbrev pub told_by : Result Alignment Refusal → Told Alignment
told_by (Ok a) = gives a
told_by (Err r) = only (number_of r)

-- of a time, where what says why there is none has a number
abbrev pub time_told_in : {E : Type 0} → (number : E → ℕ) → Result Float E → Told Float
time_told_in number (Ok t) = gives t
time_told_in number (Err r) = only (number r)

-- of a time, by what was found
abbrev pub time_found_in : {E : Type 0} → (number : E → ℕ) → Result Alignment E → Float → Told Float
time_found_in number (Ok a) rt = gives (aligned_by a rt)
time_found_in number (Err r) rt = only (number r)

-- the same of a refusal of the table
abbrev pub time_told_by : Result Float Refusal → Told Float
time_told_by r = time_told_in number_of r

abbrev pub time_told : Result Alignment Refusal → Float → Told Float
time_told found rt = time_found_in number_of found rt

-- the status for a list of records and a file: 4 where the list ends before the file
abbrev pub status : List Alignment → ℕ → ℕ
status records file = first_failing ((bad_file, reaches records file) ∷ [])

-- ---- the contracts: the answer, and what it tells

-- of `record_of`
pub record LookupCall (records : List Alignment) (file : ℕ) (r : Result Alignment Refusal) : Type 0 where
  pub answer : r ≡ record_of records file
  pub told : told_by r ≡ told_for (status records file) (gives (record_at records file))

-- of `time_by`: the status of what was found stays
pub record TimeByCall (found : Result Alignment Refusal) (rt : Float) (r : Result Float Refusal) : Type 0 where
  pub answer : r ≡ time_by found rt
  pub told : time_told_by r ≡ time_told found rt

-- of `time_by_number`: the number stays, whichever it is
pub record TimeByNumberCall (found : Result Alignment ℕ) (rt : Float) (r : Result Float ℕ) : Type 0 where
  pub answer : r ≡ time_by_number found rt
  pub told : time_told_in (λ n. n) r ≡ time_found_in (λ n. n) found rt

-- of `aligned`
pub record AlignedCall (records : List Alignment) (file : ℕ) (rt : Float) (r : Result Float Refusal) : Type 0 where
  pub answer : r ≡ time_by (record_of records file) rt
  pub told : time_told_by r ≡ told_for (status records file) (gives (aligned_by (record_at records file) rt))

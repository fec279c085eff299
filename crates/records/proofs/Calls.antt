-- The contracts of a lookup and of a row's time, each from the equation for its answer: what it tells follows.
use mathlib.Core.Path.{◌≡◌, refl, ap, ◌∙◌}
use mathlib.Core.Bool.{Bool, true, false, cond}
use mathlib.Core.List.{List, [], ◌∷◌}
use Prim.Native.Nat.{ℕ}
use lib.Ieee.{Float}
use Rattle.std.specs.Prelude.{Result, Ok, Err}
use Rattle.status.specs.Status.{bad_file, first_failing, number_of}
use Rattle.status.specs.Told.{gives, told_for}
use Rattle.rt_matrix.specs.declared.Alignment.{Alignment}
use Rattle.retention_alignment.specs.Alignments.{aligned_by}
use Rattle.records.specs.Record.{
  reaches,
  record_at,
  record_of,
  time_by,
  time_by_number,
  time_found,
  told_by,
  time_told_in,
  time_found_in,
  time_told_by,
  time_told,
  LookupCall,
  TimeByCall,
  TimeByNumberCall,
  AlignedCall,
}
use Rattle.status.specs.declared.Refusal.{Refusal}
use Rattle.status.specs.declared.Refusal.TheVariants.{BadFile}

-- the status of a lookup, by whether the list reaches the file
abbrev by : Bool → ℕ
by b = first_failing ((bad_file, b) ∷ [])

-- what is found tells what the status says, and so does a time by it
found_told_lem : (b : Bool) (a : Alignment) → told_by (cond b (Ok a) (Err BadFile)) ≡ told_for (by b) (gives a)
found_told_lem true a = refl
found_told_lem false a = refl

time_told_lem : (b : Bool) (a : Alignment) (rt : Float)
    → time_told (cond b (Ok a) (Err BadFile)) rt ≡ told_for (by b) (gives (aligned_by a rt))
time_told_lem true a rt = refl
time_told_lem false a rt = refl

time_by_lem : {E : Type 0} (number : E → ℕ) (found : Result Alignment E) (rt : Float)
    → time_told_in number (time_found found rt) ≡ time_found_in number found rt
time_by_lem number (Ok a) rt = refl
time_by_lem number (Err r) rt = refl

pub lookup : (records : List Alignment) (file : ℕ) (r : Result Alignment Refusal) → r ≡ record_of records file
    → LookupCall records file r
lookup records file r e =
    record { answer = e; told = ap told_by e ∙ found_told_lem (reaches records file) (record_at records file) }

pub timed : (found : Result Alignment Refusal) (rt : Float) (r : Result Float Refusal) → r ≡ time_by found rt → TimeByCall found rt r
timed found rt r e = record { answer = e; told = ap time_told_by e ∙ time_by_lem number_of found rt }

pub numbered : (found : Result Alignment ℕ) (rt : Float) (r : Result Float ℕ) → r ≡ time_by_number found rt
    → TimeByNumberCall found rt r
numbered found rt r e = record { answer = e; told = ap (time_told_in (λ n. n)) e ∙ time_by_lem (λ n. n) found rt }

-- a lookup, and then a time by what it found
pub looked_up_and_timed : (records : List Alignment) (file : ℕ) (rt : Float) (found : Result Alignment Refusal) (r : Result Float Refusal)
    → LookupCall records file found → TimeByCall found rt r → AlignedCall records file rt r
looked_up_and_timed records file rt found r l t =
    record {
      answer = t.answer ∙ ap (λ (g : Result Alignment Refusal). time_by g rt) l.answer;
      told =
          t.told
          ∙ ap (λ (g : Result Alignment Refusal). time_told g rt) l.answer
          ∙ time_told_lem (reaches records file) (record_at records file) rt;
    }

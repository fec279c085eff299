-- Laws of the status: its value by the values of the checks, and what a call that is accepted has passed.
use mathlib.Core.Path.{◌≡◌, refl}
use mathlib.Core.Bool.{Bool, true, false, cond}
use mathlib.Core.List.{List, [], ◌∷◌}
use Prim.Native.Nat.{ℕ, ◌<◌}
use native.Mathlib.Omega.{arith}
use lib.Dec.{eqb}
use lib.ListN.{length, get_or}
use Rattle.status.specs.Checks.{every, lengths_agree, all_below}
use Rattle.status.specs.Limits.{within_row_limits}
use Rattle.status.specs.Status.{accepted, bad_lengths, past_limit, too_short, bad_file, bad_peptide, bad_letter, bad_offsets}
use Rattle.status.specs.Status.{first_failing, number_of, refusal_by, status_of, checked}
use Rattle.status.proofs.Laws.{and_true, below_at, length_at, row_limits}
use Rattle.status.proofs.First.{passed_at_lem}
use Rattle.peptide.specs.Table.{Table, offsets_right, letters_right, table_status}
use Rattle.peptide.proofs.Laws.{table_first, offsets_peptide}
use Rattle.embedding.specs.declared.Model.{Model}
use Rattle.embedding.specs.declared.Model.TheVariants.{Retention, Mobility}
use Rattle.model_fit.specs.Input.{Input, columns_agree, lengths_right, checks, status_by}
use Rattle.model_fit.specs.Shared.{Listed, Numbered, Checked}

-- the status where the checks and the table's status have these values; a call of a model has no files
pub status_is : (model : Model) (i : Input) (room : Bool) (a b : Bool) (t : ℕ) (f : Bool)
    → a ≡ lengths_right model i
    → b ≡ within_row_limits (length i.peptides) (length i.table.masses)
    → t ≡ table_status i.table.letters i.table.offsets (length i.table.masses)
    → f ≡ all_below (length i.table.masses) i.peptides
    → first_failing
    ((bad_lengths, a)
    ∷ (past_limit, b)
    ∷ (too_short, room)
    ∷ (t, eqb t accepted)
    ∷ (bad_file, true)
    ∷ (bad_peptide, f)
    ∷ [])
    ≡ status_by model i room
unfolding status_by
status_is model i room a b t f one two table five =
    let t = i.table in
    let peptides = length t.masses in
    let last : List (ℕ × Bool) = (bad_peptide, all_below peptides i.peptides) ∷ [] in
    rw (one, two, table, five, table_first t.letters t.offsets peptides last)

-- the status of what the table's checks answer
pub table_checked : (letters offsets : List ℕ) (peptides : ℕ)
    → status_of (checked (table_status letters offsets peptides)) ≡ table_status letters offsets peptides
unfolding table_status
table_checked letters offsets peptides =
    by_tests (offsets_right peptides (length letters) offsets) (letters_right letters)
  where
    by_tests : (a b : Bool) → let s = cond a (cond b accepted bad_letter) bad_offsets in status_of (checked s) ≡ s
    by_tests true true = refl
    by_tests true false = refl
    by_tests false b = refl

-- the columns' lengths
record Long (i : Input) : Type 0 where
  labels : length i.labels ≡ length i.peptides
  qs : length i.qs ≡ length i.peptides
  observed : length i.observed ≡ length i.peptides

long : (model : Model) (i : Input) → lengths_right model i ≡ true → Long i
unfolding columns_agree
long Retention i e =
    let n : ℕ = length i.peptides in
    let ls : List ℕ = length i.labels ∷ length i.qs ∷ length i.observed ∷ [] in
    let logs : List ℕ = length i.table.logs ∷ [] in
    let s : lengths_agree n ls ≡ true =
    (and_true (lengths_agree n ls) (lengths_agree (length i.table.masses) logs) e).0 in
    record {
      labels = length_at n ls 0 s (omega arith);
      qs = length_at n ls 1 s (omega arith);
      observed = length_at n ls 2 s (omega arith);
    }
long Mobility i e =
    let n : ℕ = length i.peptides in
    let ls : List ℕ = length i.labels ∷ length i.qs ∷ length i.charges ∷ length i.observed ∷ [] in
    record {
      labels = length_at n ls 0 e (omega arith);
      qs = length_at n ls 1 e (omega arith);
      observed = length_at n ls 3 e (omega arith);
    }

-- the number of a refusal is the status that refuses
pub refused_number : (model : Model) (i : Input) (room : Bool) → (status_by model i room ≡ accepted → ⊥)
    → number_of (refusal_by (status_by model i room)) ≡ status_by model i room
unfolding status_by
refused_number model i room =
    by_tests (lengths_right model i) (within_row_limits (length i.peptides) (length i.table.masses)) room
    (offsets_right (length i.table.masses) (length i.table.letters) i.table.offsets) (letters_right i.table.letters)
    (all_below (length i.table.masses) i.peptides)
  where
    by_tests : (a b c d e f : Bool)
        → let n =
        first_failing
        ((bad_lengths, a) ∷ (past_limit, b) ∷ (too_short, c) ∷ (bad_offsets, d) ∷ (bad_letter, e) ∷ (bad_peptide, f) ∷ []) in
        (n ≡ accepted → ⊥) → number_of (refusal_by n) ≡ n
    by_tests false b c d e f h = refl
    by_tests true false c d e f h = refl
    by_tests true true false d e f h = refl
    by_tests true true true false e f h = refl
    by_tests true true true true false f h = refl
    by_tests true true true true true false h = refl
    by_tests true true true true true true h = absurd (h refl)

-- an accepted call has passed all checks
module _ (model : Model) (i : Input) (room : Bool) (accept : status_by model i room ≡ accepted) where
  check_at : (k : ℕ) → k < 6 → (get_or (checks model i room) k (0, true)).1 ≡ true
  unfolding status_by every
  check_at k h = passed_at_lem (checks model i room) k refl accept h

  pub accepted_room : room ≡ true
  accepted_room = check_at 2 (omega arith)

  pub accepted_checked : Checked i
  accepted_checked =
      let l = long model i (check_at 0 (omega arith)) in
      record {
        labels_long = l.labels;
        qs_long = l.qs;
        observed_long = l.observed;
        rows_max = (row_limits (length i.peptides) (length i.table.masses) (check_at 1 (omega arith))).rows_max;
        numbered = record { offsets = check_at 3 (omega arith); below = check_at 5 (omega arith) };
      }

-- each row's peptide is in the table
pub listed : (t : Table) (peptides : List ℕ) (k : ℕ) → Numbered t peptides → k < length peptides
    → Listed t (get_or peptides k 0)
listed t peptides k n h =
    let l : get_or peptides k 0 < length t.masses = below_at (length t.masses) peptides k n.below h in
    record {
      has = offsets_peptide t.letters t.offsets (length t.masses) (get_or peptides k 0) n.offsets l;
      weighed = l;
    }

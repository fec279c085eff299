-- Laws of the checks of a run.
use mathlib.Core.Path.{◌≡◌, refl, sym, ◌∙◌}
use mathlib.Core.Bool.{Bool, true, false, ◌&&◌}
use mathlib.Core.List.{List, [], ◌∷◌}
use Prim.Native.Nat.{ℕ, ◌≤◌, ◌<◌, max}
use native.Mathlib.Nat.{lt_of_not-le}
use native.Mathlib.Decide.{dec_le}
use native.Mathlib.Omega.{arith}
use lib.Dec.{leb, eqb}
use borrow.Author.Tests.{le-leb, lt-leb}
use lib.ListN.{length}
use Rattle.status.specs.Checks.{every, lengths_agree, all_below}
use Rattle.status.specs.Limits.{within_limits}
use Rattle.status.specs.Status.{
  accepted,
  bad_lengths,
  past_limit,
  too_short,
  bad_file,
  bad_peptide,
  bad_letter,
  bad_offsets,
  first_failing,
  number_of,
  refusal_by,
}
use Rattle.peptide.specs.Table.{table_status, offsets_right, letters_right}
use Rattle.peptide.proofs.Laws.{table_first}
use Rattle.run.specs.Call.{Input, Room, peptides, columns_agree, long_enough, status_by}

-- six lengths that agree, as four and two
both : (a b c d e f : Bool)
    → ((a && (b && (c && (d && true)))) && (e && f)) ≡ (a && (b && (c && (d && (e && (f && true))))))
both true true true true e f = two e f
  where
    two : (e f : Bool) → (e && f) ≡ (e && (f && true))
    two true true = refl
    two true false = refl
    two false f = refl
both true true true false e f = refl
both true true false d e f = refl
both true false c d e f = refl
both false b c d e f = refl

pub six_lengths : (n a b c d e f : ℕ)
    → (lengths_agree n (a ∷ b ∷ c ∷ d ∷ []) && (eqb e n && eqb f n))
    ≡ lengths_agree n (a ∷ b ∷ c ∷ d ∷ e ∷ f ∷ [])
unfolding every
six_lengths n a b c d e f = both (eqb a n) (eqb b n) (eqb c n) (eqb d n) (eqb e n) (eqb f n)

pub one_length : (n a : ℕ) → eqb a n ≡ lengths_agree n (a ∷ [])
unfolding every
one_length n a = by (eqb a n)
  where
    by : (t : Bool) → t ≡ (t && true)
    by true = refl
    by false = refl

-- a workspace that has the least cells is long enough where it has the others
pub with_least : (cells least w : ℕ) → least ≤ w → leb cells w ≡ leb (max cells least) w
with_least cells least w l = cases (dec_le cells w)
  where
    cases : Dec (cells ≤ w) → leb cells w ≡ leb (max cells least) w
    cases (yes h) = le-leb cells w h ∙ sym (le-leb (max cells least) w (omega arith))
    cases (no h) =
        let g = lt_of_not-le h in
        lt-leb cells w g ∙ sym (lt-leb (max cells least) w (omega arith))

pub too_few : (cells least w : ℕ) → w < least → leb (max cells least) w ≡ false
too_few cells least w l = lt-leb (max cells least) w (omega arith)

-- the status, where the checks and the table's status have these values
pub status_by_lem : (i : Input) (room : Room) (a b c : Bool) (t : ℕ) (f g : Bool)
    → a ≡ columns_agree i
    → b ≡ within_limits i.files (length i.file) (peptides i)
    → c ≡ long_enough i.files (peptides i) (length i.file) room
    → t ≡ table_status i.table.letters i.table.offsets (peptides i)
    → f ≡ all_below i.files i.file
    → g ≡ all_below (peptides i) i.peptide
    → first_failing
    ((bad_lengths, a)
    ∷ (past_limit, b)
    ∷ (too_short, c)
    ∷ (t, eqb t accepted)
    ∷ (bad_file, f)
    ∷ (bad_peptide, g)
    ∷ [])
    ≡ status_by i room
unfolding status_by
status_by_lem i room a b c t f g one two three table four five =
    let later : List (ℕ × Bool) =
    (bad_file, all_below i.files i.file) ∷ (bad_peptide, all_below (peptides i) i.peptide) ∷ [] in
    rw (
      one,
      two,
      three,
      table,
      four,
      five,
      table_first i.table.letters i.table.offsets (peptides i) later,
    )

-- the number of a refusal is the status that refuses
pub refused_number : (i : Input) (room : Room) → (status_by i room ≡ accepted → ⊥)
    → number_of (refusal_by (status_by i room)) ≡ status_by i room
unfolding status_by
refused_number i room =
    by_tests (columns_agree i) (within_limits i.files (length i.file) (peptides i))
    (long_enough i.files (peptides i) (length i.file) room)
    (offsets_right (peptides i) (length i.table.letters) i.table.offsets) (letters_right i.table.letters)
    (all_below i.files i.file) (all_below (peptides i) i.peptide)
  where
    by_tests : (a b c d e f g : Bool)
        → let n =
        first_failing
        ((bad_lengths, a)
        ∷ (past_limit, b)
        ∷ (too_short, c)
        ∷ (bad_offsets, d)
        ∷ (bad_letter, e)
        ∷ (bad_file, f)
        ∷ (bad_peptide, g)
        ∷ []) in
        (n ≡ accepted → ⊥) → number_of (refusal_by n) ≡ n
    by_tests false b c d e f g h = refl
    by_tests true false c d e f g h = refl
    by_tests true true false d e f g h = refl
    by_tests true true true false e f g h = refl
    by_tests true true true true false f g h = refl
    by_tests true true true true true false g h = refl
    by_tests true true true true true true false h = refl
    by_tests true true true true true true true h = absurd (h refl)

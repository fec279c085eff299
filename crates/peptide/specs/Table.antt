-- The peptide table of document 01: its letters, offsets, masses and logs, and checks 7 and 6.
use Rattle.std.specs.Prelude.{ℕ, ◌+◌, ◌-◌, ◌≤◌, ◌<◌, Bool, false, ◌&&◌, List, [], ◌∷◌, eqb, leb, Float, length, get_or, take, drop}
use Rattle.mass.specs.Mass.{is_letter}
use Rattle.status.specs.Checks.{every}
use Rattle.status.specs.Limits.{max_letters}
use Rattle.status.specs.Status.{bad_offsets, bad_letter, first_failing}

-- the letters of all peptides, where each peptide's begin and the last's end, a mass for each peptide, and for
-- retention its log
pub record Table : Type 0 where
  pub letters : List ℕ
  pub offsets : List ℕ
  pub masses : List Float
  pub logs : List Float

-- the offsets after one at `start`: none falls, none is more than a peptide's length above the one before, and the
-- last is `end`
unfoldable pub climbs : (start end : ℕ) → List ℕ → Bool
climbs start end [] = eqb start end
climbs start end (o ∷ offsets) = leb start o && leb o (start + max_letters) && climbs o end offsets

-- the offsets of so many peptides with so many letters: one more than the peptides, from 0, never falling, ending at
-- the letters' length, no peptide over 255 letters
unfoldable pub offsets_right : (peptides letters : ℕ) → List ℕ → Bool
offsets_right peptides letters [] = false
offsets_right peptides letters (o ∷ offsets) = eqb (length offsets) peptides && eqb o 0 && climbs o letters offsets

-- every letter is A to Z, used or not
abbrev pub letters_right : List ℕ → Bool
letters_right letters = every is_letter letters

-- 7 before 6
unfoldable pub table_status : (letters offsets : List ℕ) (peptides : ℕ) → ℕ
table_status letters offsets peptides =
    first_failing
    ((bad_offsets, offsets_right peptides (length letters) offsets) ∷ (bad_letter, letters_right letters) ∷ [])

-- where a peptide's letters begin and end
abbrev pub start_of : List ℕ → ℕ → ℕ
start_of offsets p = get_or offsets p 0

abbrev pub end_of : List ℕ → ℕ → ℕ
end_of offsets p = get_or offsets (p + 1) 0

-- a peptide's letters
abbrev pub sequence_of : (letters offsets : List ℕ) → ℕ → List ℕ
sequence_of letters offsets p = take (end_of offsets p - start_of offsets p) (drop (start_of offsets p) letters)

-- the table has a peptide of that number: what a table that passes says of each number below its peptides
pub record HasPeptide (letters offsets : List ℕ) (p : ℕ) : Type 0 where
  pub numbered : p + 1 < length offsets
  pub rising : start_of offsets p ≤ end_of offsets p
  pub within : end_of offsets p ≤ length letters
  pub short : end_of offsets p ≤ start_of offsets p + max_letters

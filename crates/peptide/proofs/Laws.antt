-- Laws of the peptide table: how a loop goes through the offsets, and what a table that passes says of each peptide.
use mathlib.Core.Logic.{◌≢◌}
use mathlib.Core.Path.{◌≡◌, refl, sym, ap, ◌∙◌}
use mathlib.Core.Bool.{Bool, true, false, ◌&&◌, cond}
use mathlib.Core.List.{List, [], ◌∷◌}
use Prim.Native.Nat.{ℕ, zero, suc, ◌+◌, ◌-◌, ◌≤◌, ◌<◌}
use native.Mathlib.Nat.{le_of_suc-le-suc, not-suc-le-zero}
use native.Mathlib.Numerals.{add-one}
use native.Mathlib.Omega.{arith}
use lib.Dec.{eqb, leb}
use lib.ListN.{length, get_or, take, drop, length-drop, drop_of_length-le}
use lib.Seq.{take_all, drop-cons, length-take-le}
use borrow.Author.Tests.{leb-true, eq-eqb, ne_eqb, eqb-true, eqb-false}
use Rattle.std.proofs.lemmas.Grind.{get_or_after_one}
use Rattle.mass.specs.Mass.{is_letter}
use Rattle.status.specs.Checks.{every}
use Rattle.status.specs.Limits.{max_letters}
use Rattle.status.specs.Status.{accepted, bad_offsets, bad_letter, first_failing}
use Rattle.status.proofs.Laws.{and_true, every_take, every_drop}
use Rattle.peptide.specs.Table.{
  climbs,
  offsets_right,
  letters_right,
  table_status,
  start_of,
  end_of,
  sequence_of,
  HasPeptide,
}

-- ---- a loop through the offsets

-- the first offset and the others
pub offsets_head : (peptides letters : ℕ) (offsets : List ℕ) → 0 < length offsets
    → offsets_right peptides letters offsets
    ≡ eqb (length offsets - 1) peptides && eqb (get_or offsets 0 0) 0 && climbs (get_or offsets 0 0) letters (drop 1 offsets)
unfolding offsets_right
offsets_head peptides letters [] h = absurd (not-suc-le-zero h)
offsets_head peptides letters (o ∷ offsets) h =
    ap (λ (n : ℕ). eqb n peptides && eqb o 0 && climbs o letters offsets) {x = length offsets}
    {y = suc (length offsets) - 1} (omega arith)

-- the offsets after the first, as a pattern takes them
abbrev pub rest : List ℕ → List ℕ
rest offsets = take (length offsets - 1) (drop 1 offsets)

rest_is : (offsets : List ℕ) → rest offsets ≡ drop 1 offsets
rest_is offsets = take_all (length offsets - 1) (drop 1 offsets) (omega (arith, length-drop 1 offsets))

-- one of them is one of all
pub get_or_rest : (offsets : List ℕ) (i : ℕ) → get_or (rest offsets) i 0 ≡ get_or offsets (1 + i) 0
get_or_rest offsets i =
    ap (λ (xs : List ℕ). get_or xs i 0) (rest_is offsets) ∙ get_or_after_one offsets i 0

offsets_by : (peptides letters : ℕ) (offsets : List ℕ) → 1 ≤ length offsets
    → offsets_right peptides letters offsets
    ≡ eqb (length (rest offsets)) peptides && eqb (get_or offsets 0 0) 0 && climbs (get_or offsets 0 0) letters (rest offsets)
offsets_by peptides letters offsets h =
    rw (rest_is offsets, length-drop 1 offsets) (offsets_head peptides letters offsets h)

-- where they are as many as they should be, and the first is 0
pub offsets_rest : (peptides letters : ℕ) (offsets : List ℕ) → 1 ≤ length offsets → get_or offsets 0 0 ≡ 0
    → length (rest offsets) ≡ peptides
    → climbs 0 letters (rest offsets) ≡ offsets_right peptides letters offsets
offsets_rest peptides letters offsets h first many =
    sym
    (rw (eq-eqb _ _ many, eq-eqb _ _ first) at (offsets_by peptides letters offsets h)
    ∙ ap (λ (start : ℕ). climbs start letters (rest offsets)) first)

-- and where they are not
pub count_wrong : (peptides letters : ℕ) (offsets : List ℕ) → 1 ≤ length offsets
    → length (rest offsets) ≢ peptides → offsets_right peptides letters offsets ≡ false
count_wrong peptides letters offsets h many =
    rw (ne_eqb _ _ many) at (offsets_by peptides letters offsets h)

pub first_wrong : (peptides letters : ℕ) (offsets : List ℕ) → 1 ≤ length offsets → get_or offsets 0 0 ≢ 0
    → offsets_right peptides letters offsets ≡ false
first_wrong peptides letters offsets h first =
    rw (ne_eqb _ _ first) at (offsets_by peptides letters offsets h) ∙ none (eqb (length (rest offsets)) peptides)
  where
    none : (b : Bool) → b && false && climbs (get_or offsets 0 0) letters (rest offsets) ≡ false
    none true = refl
    none false = refl

pub offsets_none : (peptides letters : ℕ) (offsets : List ℕ) → length offsets < 1
    → offsets_right peptides letters offsets ≡ false
unfolding offsets_right
offsets_none peptides letters [] h = refl
offsets_none peptides letters (o ∷ offsets) h = absurd (not-suc-le-zero (le_of_suc-le-suc h))

-- the offset at i and those after it
pub climbs_step : (start end i : ℕ) (offsets : List ℕ) → i < length offsets
    → climbs start end (drop i offsets)
    ≡ leb start (get_or offsets i 0) && leb (get_or offsets i 0) (start + max_letters) && climbs (get_or offsets i 0) end (drop (i + 1) offsets)
unfolding climbs
climbs_step start end i offsets h = rw (drop-cons offsets i 0 h, add-one i)

-- none left
pub climbs_done : (start end i : ℕ) (offsets : List ℕ) → length offsets ≤ i
    → climbs start end (drop i offsets) ≡ eqb start end
unfolding climbs
climbs_done start end i offsets h = rw (drop_of_length-le offsets {i = i} h)

-- ---- what offsets that pass say

-- the tests at one offset
climbs_cons : (start end o : ℕ) (offsets : List ℕ) → climbs start end (o ∷ offsets) ≡ true
    → (start ≤ o) × (o ≤ start + max_letters) × (climbs o end offsets ≡ true)
unfolding climbs
climbs_cons start end o offsets e =
    let s = and_true (leb start o && leb o (start + max_letters)) (climbs o end offsets) e in
    let t = and_true (leb start o) (leb o (start + max_letters)) s.0 in
    (leb-true start o t.0, leb-true o (start + max_letters) t.1, s.1)

pub climbs_le : (start end : ℕ) (offsets : List ℕ) → climbs start end offsets ≡ true → start ≤ end
unfolding climbs
climbs_le start end [] e = omega (arith, eqb-true start end e)
climbs_le start end (o ∷ offsets) e =
    let s = climbs_cons start end o offsets e in
    omega (arith, climbs_le o end offsets s.2)

-- the offset at i, after the one before it
pub climbs_at : (start end i : ℕ) (offsets : List ℕ) → climbs start end offsets ≡ true → i < length offsets
    → (get_or (start ∷ offsets) i 0 ≤ get_or offsets i 0) × (get_or offsets i 0 ≤ end) × (get_or offsets i 0 ≤ get_or (start ∷ offsets) i 0 + max_letters)
unfolding climbs
climbs_at start end i [] e h = absurd (not-suc-le-zero h)
climbs_at start end zero (o ∷ offsets) e h =
    let s = climbs_cons start end o offsets e in
    (s.0, climbs_le o end offsets s.2, s.1)
climbs_at start end (suc i) (o ∷ offsets) e h =
    climbs_at o end i offsets (climbs_cons start end o offsets e).2 (le_of_suc-le-suc h)

-- how many there are, and each peptide's place
pub offsets_long : (peptides letters : ℕ) (offsets : List ℕ) → offsets_right peptides letters offsets ≡ true
    → length offsets ≡ suc peptides
unfolding offsets_right
offsets_long peptides letters [] e = cc
offsets_long peptides letters (o ∷ offsets) e =
    let s = and_true (eqb (length offsets) peptides && eqb o 0) (climbs o letters offsets) e in
    ap suc (eqb-true (length offsets) peptides (and_true (eqb (length offsets) peptides) (eqb o 0) s.0).0)

pub offsets_peptide : (letters offsets : List ℕ) (peptides p : ℕ)
    → offsets_right peptides (length letters) offsets ≡ true → p < peptides → HasPeptide letters offsets p
unfolding offsets_right
offsets_peptide letters [] peptides p e h = let z : ◌≡◌ {A = ℕ} 0 1 = cc in absurd (omega arith)
offsets_peptide letters (o ∷ offsets) peptides p e h =
    let n = offsets_long peptides (length letters) (o ∷ offsets) e in
    let s = and_true (eqb (length offsets) peptides && eqb o 0) (climbs o (length letters) offsets) e in
    let t = climbs_at o (length letters) p offsets s.1 (omega arith) in
    let next : get_or (o ∷ offsets) (p + 1) 0 ≡ get_or offsets p 0 =
    ap (λ (k : ℕ). get_or (o ∷ offsets) k 0) (add-one p) in
    record { numbered = omega arith; rising = rw next t.0; within = rw next t.1; short = rw next t.2 }

-- ---- the table's status

-- by the values of checks 7 and 6
pub status_by_lem : (letters offsets : List ℕ) (peptides : ℕ) (a b : Bool) (status : ℕ)
    → a ≡ offsets_right peptides (length letters) offsets → b ≡ letters_right letters
    → status ≡ first_failing ((bad_offsets, a) ∷ (bad_letter, b) ∷ [])
    → status ≡ table_status letters offsets peptides
unfolding table_status
status_by_lem letters offsets peptides a b status seven six first = rw (seven, six) at first

passed : (a b : Bool) → cond a (cond b accepted bad_letter) bad_offsets ≡ accepted → (a ≡ true) × (b ≡ true)
passed true true e = (refl, refl)
passed true false e = absurd (eqb-false bad_letter accepted refl e)
passed false b e = absurd (eqb-false bad_offsets accepted refl e)

-- a table that passes has passed both
pub status_accepted : (letters offsets : List ℕ) (peptides : ℕ)
    → table_status letters offsets peptides ≡ accepted
    → (offsets_right peptides (length letters) offsets ≡ true) × (letters_right letters ≡ true)
unfolding table_status
status_accepted letters offsets peptides e =
    passed (offsets_right peptides (length letters) offsets) (letters_right letters) e

-- the status in front of other checks, which is that of checks 7 and 6 in front of them
table_first_by : (a b : Bool) (later : ℕ)
    → (let s = cond a (cond b accepted bad_letter) bad_offsets in cond (eqb s accepted) later s)
    ≡ cond a (cond b later bad_letter) bad_offsets
table_first_by true true later = refl
table_first_by true false later = refl
table_first_by false b later = refl

pub table_first : (letters offsets : List ℕ) (peptides : ℕ) (later : List (ℕ × Bool))
    → first_failing ((table_status letters offsets peptides, eqb (table_status letters offsets peptides) accepted) ∷ later)
    ≡ first_failing
    ((bad_offsets, offsets_right peptides (length letters) offsets) ∷ (bad_letter, letters_right letters) ∷ later)
unfolding table_status
table_first letters offsets peptides later =
    table_first_by (offsets_right peptides (length letters) offsets) (letters_right letters) (first_failing later)

-- a peptide's letters are its own, and no more than 255
pub has_peptide : (letters offsets : List ℕ) (peptides p : ℕ) → table_status letters offsets peptides ≡ accepted
    → p < peptides → HasPeptide letters offsets p
has_peptide letters offsets peptides p e h =
    offsets_peptide letters offsets peptides p (status_accepted letters offsets peptides e).0 h

pub length_sequence : (letters offsets : List ℕ) (p : ℕ) → HasPeptide letters offsets p
    → length (sequence_of letters offsets p) ≡ end_of offsets p - start_of offsets p
length_sequence letters offsets p h =
    length-take-le (end_of offsets p - start_of offsets p) (drop (start_of offsets p) letters)
    (simp length-drop (omega (arith, h.within)))

pub sequence_short : (letters offsets : List ℕ) (p : ℕ) → HasPeptide letters offsets p
    → length (sequence_of letters offsets p) ≤ max_letters
sequence_short letters offsets p h = omega (arith, length_sequence letters offsets p h, h.short)

-- and each is A to Z
pub sequence_letters : (letters offsets : List ℕ) (peptides p : ℕ)
    → table_status letters offsets peptides ≡ accepted → every is_letter (sequence_of letters offsets p) ≡ true
sequence_letters letters offsets peptides p e =
    every_take is_letter (end_of offsets p - start_of offsets p) (drop (start_of offsets p) letters)
    (every_drop is_letter (start_of offsets p) letters (status_accepted letters offsets peptides e).1)

-- A row, and which rows train, as document 01 has them.
use Rattle.std.specs.Prelude.{ℕ, Bool, false, not, ◌&&◌, cond, eqb, ℤ, pos, negsuc, Float}
use mathlib.Core.List.{List, [], ◌∷◌, head_d, tail}
use Rattle.std.specs.Float.{nan, binary32}
use Rattle.std.specs.Float.Ieee.{of_bits, le}

-- A row: its file, peptide, label, q, time, charge and mobility.
pub record Row : Type 0 where
  pub file : ℕ
  pub peptide : ℕ
  pub label : ℤ
  pub q : Float
  pub rt : Float
  pub charge : ℕ
  pub mobility : Float

-- the f32 0.01
abbrev pub max_q : Float
max_q = of_bits binary32 0x3C23D70A

abbrev pub is_one : ℤ → Bool
is_one (pos n) = eqb n 1
is_one (negsuc n) = false

-- label 1 and q at most the f32 0.01; a NaN is not
unfoldable pub trains : ℤ → Float → Bool
trains label q = is_one label && le q max_q

abbrev pub row_trains : Row → Bool
row_trains r = trains r.label r.q

-- every other row
abbrev pub outside : Row → Bool
outside r = not (row_trains r)

-- the rows that a test selects, in order
unfoldable pub selected : (sel : Row → Bool) → List Row → List Row
selected sel [] = []
selected sel (r ∷ rows) = cond (sel r) (r ∷ selected sel rows) (selected sel rows)

-- the rows that train
abbrev pub training : List Row → List Row
training = selected row_trains

-- column by column: whether each row trains
unfoldable pub mask : List ℤ → List Float → List Bool
mask [] qs = []
mask (l ∷ labels) [] = []
mask (l ∷ labels) (q ∷ qs) = trains l q ∷ mask labels qs

-- the elements whose mark is true, in order
unfoldable pub kept : {A : Type 0} → List Bool → List A → List A
kept [] xs = []
kept (b ∷ marks) [] = []
kept (b ∷ marks) (x ∷ xs) = cond b (x ∷ kept marks xs) (kept marks xs)

-- the rows whose fields are these columns, all as long as the first
unfoldable pub rows_from : (files peptides : List ℕ) (labels : List ℤ) (qs rts : List Float) (charges : List ℕ)
    (mobilities : List Float) → List Row
rows_from [] peptides labels qs rts charges mobilities = []
rows_from (f ∷ files) peptides labels qs rts charges mobilities =
    record {
      file = f;
      peptide = head_d peptides 0;
      label = head_d labels (pos 0);
      q = head_d qs nan;
      rt = head_d rts nan;
      charge = head_d charges 0;
      mobility = head_d mobilities nan;
    }
    ∷ rows_from files (tail peptides) (tail labels) (tail qs) (tail rts) (tail charges) (tail mobilities)

-- A peptide's row of cells as shares: what its cells from f on give.
use mathlib.Core.Path.{◌≡◌, refl, ap, ap₂, ◌∙◌}
use mathlib.Core.Bool.{Bool, true, false, cond}
use mathlib.Core.List.{List, [], ◌∷◌, map, zip_with}
use mathlib.Core.Option.{Option, none, some}
use Prim.Native.Nat.{ℕ, ◌+◌, ◌≤◌, ◌<◌}
use native.Mathlib.Omega.{arith}
use native.Mathlib.Numerals.{add-one}
use lib.ListN.{length, get_or, drop, drop_of_length-le, length-map, get_or-map}
use lib.Seq.{drop-cons}
use lib.Ieee.{Float, nan, binary64, div, eq, ne}
use borrow.Author.Tests.{not-true, not-false}
use Rattle.float.specs.Number.{number}
use Rattle.rt_matrix.specs.Line.{share, present}
use Rattle.rt_matrix.specs.Cells.{absent, decode, shares_of}
use Rattle.matrix.proofs.Lists.{length_zip_with, get_d_zip_with}

-- ---- a cell by its test

pub decode_absent : (t : Float) → eq t absent ≡ true → decode t ≡ none
unfolding decode
decode_absent t e = ap (λ (b : Bool). cond b none (some t)) e

pub decode_present : (t : Float) → eq t absent ≡ false → decode t ≡ some t
unfolding decode
decode_present t e = ap (λ (b : Bool). cond b none (some t)) e

pub ne_true : (t : Float) → ne t absent ≡ true → eq t absent ≡ false
unfolding ne
ne_true t e = not-true (eq t absent) e

pub ne_false : (t : Float) → ne t absent ≡ false → eq t absent ≡ true
unfolding ne
ne_false t e = not-false (eq t absent) e

-- ---- the cells from f on

module _ (ms : List ℕ) (row : List Float) (f : ℕ) (h : f < length ms) (l : f < length row) where
  -- the shares of the cells from f on: that at f, and those after it
  pub left_cons : shares_of (drop f ms) (drop f row)
      ≡ share (get_or ms f 0) (decode (get_or row f nan)) ∷ shares_of (drop (f + 1) ms) (drop (f + 1) row)
  unfolding zip_with
  left_cons = rw add-one (ap₂ shares_of (drop-cons ms f 0 h) (drop-cons row f nan l))

  pub left_present : eq (get_or row f nan) absent ≡ false
      → present (shares_of (drop f ms) (drop f row))
      ≡ div binary64 (get_or row f nan) (number (get_or ms f 0)) ∷ present (shares_of (drop (f + 1) ms) (drop (f + 1) row))
  unfolding share present
  left_present e =
      ap present left_cons
      ∙ ap
      (λ (c : Option Float). present (share (get_or ms f 0) c ∷ shares_of (drop (f + 1) ms) (drop (f + 1) row)))
      (decode_present (get_or row f nan) e)

  pub left_absent : eq (get_or row f nan) absent ≡ true
      → present (shares_of (drop f ms) (drop f row)) ≡ present (shares_of (drop (f + 1) ms) (drop (f + 1) row))
  unfolding share present
  left_absent e =
      ap present left_cons
      ∙ ap
      (λ (c : Option Float). present (share (get_or ms f 0) c ∷ shares_of (drop (f + 1) ms) (drop (f + 1) row)))
      (decode_absent (get_or row f nan) e)

-- past the end there are none
pub left_none : (ms : List ℕ) (row : List Float) (f : ℕ) → length row ≤ f
    → present (shares_of (drop f ms) (drop f row)) ≡ []
unfolding present zip_with
left_none ms row f h =
    ap (λ (r : List Float). present (shares_of (drop f ms) r)) (drop_of_length-le row h) ∙ none_beside (drop f ms)
  where
    none_beside : (xs : List ℕ) → present (shares_of xs []) ≡ []
    none_beside [] = refl
    none_beside (x ∷ xs) = refl

-- ---- the shares of a row

pub length_shares : (ms : List ℕ) (row : List Float) → length row ≡ length ms
    → length (shares_of ms row) ≡ length ms
length_shares ms row e = length_zip_with share ms (map decode row) (omega (arith, length-map row decode))

pub shares_at : (ms : List ℕ) (row : List Float) (f : ℕ) → f < length ms → f < length row
    → get_or (shares_of ms row) f none ≡ share (get_or ms f 0) (decode (get_or row f nan))
shares_at ms row f h l =
    get_d_zip_with share ms (map decode row) f 0 (decode nan) none h (omega (arith, length-map row decode))
    ∙ ap (share (get_or ms f 0)) (get_or-map decode row f nan)

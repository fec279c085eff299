-- The series of ridges as a loop walks it that multiplies by ten while the ridge is at most 1.0.
use mathlib.Core.Path.{◌≡◌, refl, sym, ◌∙◌, ap}
use mathlib.Core.Bool.{Bool, true, false}
use mathlib.Core.List.{List, [], ◌∷◌}
use Prim.Native.Nat.{ℕ, zero, suc, ◌<◌}
use native.Mathlib.Nat.{not-suc-le-zero, le_of_suc-le-suc, le_of_eq, lt_trans}
use lib.ListN.{length}
use lib.Dec.{ltb→lt}
use lib.Ieee.{Float, binary64, mul, le, round}
use Rattle.float.specs.Number.{one64, tiny64}
use Rattle.elimination.specs.Elimination.{eliminate, left_solved}
use Rattle.elimination.specs.Ridge.{ten64, ridges_from, first_solved, right_side, solved, unsolved}

-- one ridge more, or the end
from_cons : (k : ℕ) (eps : Float) → le eps one64 ≡ true
    → ridges_from (suc k) eps ≡ eps ∷ ridges_from k (mul binary64 eps ten64)
unfolding ridges_from
from_cons k eps e = rw (e, ridges_from)

from_nil : (k : ℕ) (eps : Float) → le eps one64 ≡ false → ridges_from (suc k) eps ≡ []
unfolding ridges_from
from_nil k eps e = rw (e, ridges_from)

-- a series that ends before the count runs out is the same for a count more
from_more : (k : ℕ) (eps : Float) → length (ridges_from k eps) < k → ridges_from (suc k) eps ≡ ridges_from k eps
from_more zero eps h = absurd (not-suc-le-zero h)
from_more (suc k) eps h = by_test (le eps one64) refl (from_more k (mul binary64 eps ten64))
  where
    by_test : (b : Bool) → le eps one64 ≡ b
        → (length (ridges_from k (mul binary64 eps ten64)) < k → ridges_from (suc k) (mul binary64 eps ten64)
        ≡ ridges_from k (mul binary64 eps ten64))
        → ridges_from (suc (suc k)) eps ≡ ridges_from (suc k) eps
    by_test true e rest =
        from_cons (suc k) eps e
        ∙ ap {B = List Float} (λ r. eps ∷ r) (rest (le_of_suc-le-suc (rw (from_cons k eps e) at h)))
        ∙ sym (from_cons k eps e)
    by_test false e rest = from_nil (suc k) eps e ∙ sym (from_nil k eps e)

-- The loop stands at eps, with all later ridges within the count.
abbrev pub Within : Float → Type 0
Within eps = length (ridges_from 16 eps) < 16

pub within_first : Within tiny64
unfolding ridges_from round le mul
within_first = ltb→lt (length (ridges_from 16 tiny64)) 16 tt

pub at_most_one : (eps : Float) → Within eps → le eps one64 ≡ true
    → ridges_from 16 eps ≡ eps ∷ ridges_from 16 (mul binary64 eps ten64)
at_most_one eps h e =
    let rest : length (ridges_from 15 (mul binary64 eps ten64)) < 15 =
    le_of_suc-le-suc (rw (from_cons 15 eps e) at h) in
    from_cons 15 eps e ∙ ap {B = List Float} (λ r. eps ∷ r) (sym (from_more 15 (mul binary64 eps ten64) rest))

pub above_one : (eps : Float) → le eps one64 ≡ false → ridges_from 16 eps ≡ []
above_one eps e = from_nil 15 eps e

-- there are fewer after each
pub fewer : (eps : Float) → Within eps → le eps one64 ≡ true
    → length (ridges_from 16 (mul binary64 eps ten64)) < length (ridges_from 16 eps)
fewer eps h e = le_of_eq (sym (ap length (at_most_one eps h e)))

pub within_next : (eps : Float) → Within eps → le eps one64 ≡ true → Within (mul binary64 eps ten64)
within_next eps h e = lt_trans (fewer eps h e) h

-- ---- the search for the first that solves a system

module _ (n : ℕ) (rows : List (List Float)) (eps : Float) (h : Within eps) (e : le eps one64 ≡ true) where
  pub solves_here : left_solved n (eliminate n eps rows) ≡ true
      → first_solved n rows (ridges_from 16 eps) ≡ solved eps (right_side n (eliminate n eps rows))
  unfolding first_solved
  solves_here t = rw (at_most_one eps h e) (rw (t, first_solved))

  pub solves_later : left_solved n (eliminate n eps rows) ≡ false
      → first_solved n rows (ridges_from 16 eps) ≡ first_solved n rows (ridges_from 16 (mul binary64 eps ten64))
  unfolding first_solved
  solves_later t = rw (at_most_one eps h e) (rw (t, first_solved))

pub none_solves : (n : ℕ) (rows : List (List Float)) (eps : Float) → le eps one64 ≡ false
    → first_solved n rows (ridges_from 16 eps) ≡ unsolved
unfolding first_solved
none_solves n rows eps e = rw (above_one eps e)

-- A list whose cells are made anew, one after the other, from one beside it: for any elements.
use mathlib.Core.Path.{◌≡◌, refl, ap, ap₂, ◌∙◌}
use mathlib.Core.List.{List, [], ◌∷◌}
use Prim.Native.Nat.{ℕ, zero, suc, ◌+◌, ◌≤◌, ◌<◌}
use native.Mathlib.Numerals.{add-one}
use native.Mathlib.Nat.{le_of_suc-le-suc, not-suc-le-zero}
use lib.ListN.{length, get_or, set}
use Rattle.matrix.specs.Lists.{zipped}

module _ {A B : Type 0} (g : A → B → A) where
  -- the first j cells done, the others as they were
  unfoldable pub up_to : ℕ → List A → List B → List A
  up_to zero dst src = dst
  up_to (suc j) [] src = []
  up_to (suc j) (d ∷ dst) [] = d ∷ dst
  up_to (suc j) (d ∷ dst) (s ∷ src) = g d s ∷ up_to j dst src

  -- a cell that is not done yet
  pub up_to_at : (j : ℕ) (dst : List A) (src : List B) (a : A) → get_or (up_to j dst src) j a ≡ get_or dst j a
  unfolding up_to
  up_to_at zero dst src a = refl
  up_to_at (suc j) [] src a = refl
  up_to_at (suc j) (d ∷ dst) [] a = refl
  up_to_at (suc j) (d ∷ dst) (s ∷ src) a = up_to_at j dst src a

  -- one cell more
  pub up_to_suc : (j : ℕ) (dst : List A) (src : List B) (a : A) (b : B) → j < length src
      → set (up_to j dst src) j (g (get_or dst j a) (get_or src j b)) ≡ up_to (suc j) dst src
  unfolding up_to
  up_to_suc zero [] src a b h = refl
  up_to_suc zero (d ∷ dst) [] a b h = absurd (not-suc-le-zero h)
  up_to_suc zero (d ∷ dst) (s ∷ src) a b h = refl
  up_to_suc (suc j) [] src a b h = refl
  up_to_suc (suc j) (d ∷ dst) [] a b h = absurd (not-suc-le-zero h)
  up_to_suc (suc j) (d ∷ dst) (s ∷ src) a b h =
      ap {B = List A} (λ r. g d s ∷ r) (up_to_suc j dst src a b (le_of_suc-le-suc h))

  -- all cells
  pub up_to_all : (j : ℕ) (dst : List A) (src : List B) → length dst ≤ j → up_to j dst src ≡ zipped g dst src
  unfolding up_to zipped
  up_to_all zero [] src h = refl
  up_to_all zero (d ∷ dst) src h = absurd (not-suc-le-zero h)
  up_to_all (suc j) [] src h = refl
  up_to_all (suc j) (d ∷ dst) [] h = refl
  up_to_all (suc j) (d ∷ dst) (s ∷ src) h =
      ap {B = List A} (λ r. g d s ∷ r) (up_to_all j dst src (le_of_suc-le-suc h))

  -- a store of that cell
  pub up_to_step : (j : ℕ) (dst : List A) (src : List B) (l l' : List A) (v a : A) (b : B) → l ≡ up_to j dst src
      → l' ≡ set l j v → v ≡ g (get_or dst j a) (get_or src j b) → j < length src
      → l' ≡ up_to (j + 1) dst src
  up_to_step j dst src l l' v a b e f is h =
      f ∙ ap₂ (λ (m : List A) (w : A). set m j w) e is ∙ rw add-one (up_to_suc j dst src a b h)

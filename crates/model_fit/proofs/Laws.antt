-- Laws of lists that are selected, of a row whose first cells were written, for any elements, and of a listed row with
-- one cell more.
use mathlib.Core.Path.{◌≡◌, refl, sym, ap, ◌∙◌}
use mathlib.Core.Bool.{Bool, true, false, cond}
use mathlib.Core.List.{List, [], ◌∷◌, ◌++◌, append-nil}
use Prim.Native.Nat.{ℕ, zero, suc, ◌+◌, ◌≤◌, ◌<◌}
use native.Mathlib.Nat.{le_of_suc-le-suc, not-suc-le-zero}
use native.Mathlib.Omega.{arith}
use lib.ListN.{length, get_or, set, take, drop, length-append, length-drop}
use lib.Seq.{take-append-add, set_at, take_at}
use lib.Ieee.{Float}
use Rattle.float.specs.Value.{is_zero}
use Rattle.matrix.specs.Nonzero.{nonzeros, nonzero_cells, Nonzeros}
use Rattle.matrix.proofs.Nonzero.{nonzeros_append, cells_append}
use Rattle.feature.specs.Feature.{kept}

module _ {A : Type 0} where
  -- ---- selection by marks

  -- one mark and one element more
  pub kept_suc : (k : ℕ) (marks : List Bool) (xs : List A) (d : A) → k < length marks → k < length xs
      → kept (take (suc k) marks) (take (suc k) xs)
      ≡ kept (take k marks) (take k xs) ++ cond (get_or marks k false) (get_or xs k d ∷ []) []
  unfolding kept
  kept_suc k [] xs d h l = absurd (not-suc-le-zero h)
  kept_suc k (b ∷ marks) [] d h l = absurd (not-suc-le-zero l)
  kept_suc zero (b ∷ marks) (x ∷ xs) d h l = refl
  kept_suc (suc k) (true ∷ marks) (x ∷ xs) d h l =
      ap (λ (t : List A). x ∷ t) (kept_suc k marks xs d (le_of_suc-le-suc h) (le_of_suc-le-suc l))
  kept_suc (suc k) (false ∷ marks) (x ∷ xs) d h l = kept_suc k marks xs d (le_of_suc-le-suc h) (le_of_suc-le-suc l)

  -- ---- a row whose first cells were written, and that kept its length

  module _ (new old row : List A) (k : ℕ) (e : row ≡ new ++ drop k old)
      (kept_length : length row ≡ length old) where
    pub front_length : k ≤ length old → length new ≡ k
    front_length h = omega (arith, ap length e, length-append new (drop k old), length-drop k old)

    pub front_take : k ≤ length old → take k row ≡ new
    front_take h = ap (take k) e ∙ take_at new (drop k old) k (front_length h)

    -- with one cell after them
    pub front_and_one : (y : A) → k < length old → take (k + 1) (set row k y) ≡ new ++ y ∷ []
    front_and_one y h =
        ap (λ (r : List A). take (k + 1) (set r k y)) e ∙ cell (drop k old) (rw length-drop (omega arith))
      where
        cell : (rest : List A) → 0 < length rest → take (k + 1) (set (new ++ rest) k y) ≡ new ++ y ∷ []
        cell [] l = absurd (not-suc-le-zero l)
        cell (r ∷ rest) l =
            let n : length new ≡ k = front_length (omega arith) in
            rw (set_at new r rest y k n, ← n) (take-append-add new (y ∷ rest) 1)

-- ---- a row whose cells that are not zero are listed, with one cell more

module _ (row : List Float) (places : List ℕ) (values : List Float) (y : Float) (l : Nonzeros 0 row places values) where
  pub nothing_more : is_zero y ≡ true → Nonzeros 0 (row ++ y ∷ []) places values
  unfolding nonzeros nonzero_cells
  nothing_more z = record {
    places_are =
        l.places_are
        ∙ sym (nonzeros_append 0 row (y ∷ []) ∙ rw z (append-nil (nonzeros 0 row)));
    values_are = l.values_are ∙ sym (cells_append row (y ∷ []) ∙ rw z (append-nil (nonzero_cells row)));
  }

  pub one_listed : is_zero y ≡ false → Nonzeros 0 (row ++ y ∷ []) (places ++ length row ∷ []) (values ++ y ∷ [])
  unfolding nonzeros nonzero_cells
  one_listed z = record {
    places_are =
        ap (λ (t : List ℕ). t ++ length row ∷ []) l.places_are
        ∙ sym
        (nonzeros_append 0 row (y ∷ [])
        ∙ rw z (ap (λ (k : ℕ). nonzeros 0 row ++ k ∷ []) {x = 0 + length row} {y = length row} (omega arith)));
    values_are =
        ap (λ (t : List Float). t ++ y ∷ []) l.values_are ∙ sym (cells_append row (y ∷ []) ∙ rw z);
  }

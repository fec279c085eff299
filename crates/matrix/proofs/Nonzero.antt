-- Laws of the cells of a row that are not zero: of two rows end to end, and how many they are.
use mathlib.Core.Path.{◌≡◌, refl, ap, ◌∙◌}
use mathlib.Core.Bool.{Bool, true, false, cond}
use mathlib.Core.List.{List, [], ◌∷◌, ◌++◌}
use Prim.Native.Nat.{ℕ, suc, ◌+◌, ◌≤◌}
use native.Mathlib.Omega.{arith}
use lib.ListN.{length}
use lib.Ieee.{Float}
use Rattle.float.specs.Value.{is_zero}
use Rattle.matrix.specs.Nonzero.{nonzeros, nonzero_cells}

pub nonzeros_append : (j : ℕ) (xs ys : List Float)
    → nonzeros j (xs ++ ys) ≡ nonzeros j xs ++ nonzeros (j + length xs) ys
unfolding nonzeros
nonzeros_append j [] ys = ap (λ (k : ℕ). nonzeros k ys) {x = j} {y = j + 0} (omega arith)
nonzeros_append j (x ∷ xs) ys =
    by (is_zero x)
    (nonzeros_append (suc j) xs ys
    ∙ ap (λ (k : ℕ). nonzeros (suc j) xs ++ nonzeros k ys) {x = suc j + length xs} {y = j + suc (length xs)}
    (omega arith))
  where
    by : (b : Bool) → nonzeros (suc j) (xs ++ ys) ≡ nonzeros (suc j) xs ++ nonzeros (j + suc (length xs)) ys
        → cond b (nonzeros (suc j) (xs ++ ys)) (j ∷ nonzeros (suc j) (xs ++ ys))
        ≡ cond b (nonzeros (suc j) xs) (j ∷ nonzeros (suc j) xs) ++ nonzeros (j + suc (length xs)) ys
    by true e = e
    by false e = ap (λ (t : List ℕ). j ∷ t) e

pub cells_append : (xs ys : List Float) → nonzero_cells (xs ++ ys) ≡ nonzero_cells xs ++ nonzero_cells ys
unfolding nonzero_cells
cells_append [] ys = refl
cells_append (x ∷ xs) ys = by (is_zero x) (cells_append xs ys)
  where
    by : (b : Bool) → nonzero_cells (xs ++ ys) ≡ nonzero_cells xs ++ nonzero_cells ys
        → cond b (nonzero_cells (xs ++ ys)) (x ∷ nonzero_cells (xs ++ ys))
        ≡ cond b (nonzero_cells xs) (x ∷ nonzero_cells xs) ++ nonzero_cells ys
    by true e = e
    by false e = ap (λ (t : List Float). x ∷ t) e

-- as many places as cells
pub as_many : (j : ℕ) (xs : List Float) → length (nonzeros j xs) ≡ length (nonzero_cells xs)
unfolding nonzeros nonzero_cells
as_many j [] = refl
as_many j (x ∷ xs) = by (is_zero x) (as_many (suc j) xs)
  where
    by : (b : Bool) → length (nonzeros (suc j) xs) ≡ length (nonzero_cells xs)
        → length (cond b (nonzeros (suc j) xs) (j ∷ nonzeros (suc j) xs))
        ≡ length (cond b (nonzero_cells xs) (x ∷ nonzero_cells xs))
    by true e = e
    by false e = ap suc e

pub nonzeros_few : (j : ℕ) (xs : List Float) → length (nonzeros j xs) ≤ length xs
unfolding nonzeros
nonzeros_few j [] = omega arith
nonzeros_few j (x ∷ xs) = by (is_zero x) (nonzeros_few (suc j) xs)
  where
    by : (b : Bool) → length (nonzeros (suc j) xs) ≤ length xs
        → length (cond b (nonzeros (suc j) xs) (j ∷ nonzeros (suc j) xs)) ≤ suc (length xs)
    by true h = omega arith
    by false h = omega arith

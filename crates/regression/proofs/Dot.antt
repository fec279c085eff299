-- A prediction in two parts, and one over the cells of a row that are not zero: where every coefficient is finite, the
-- products of the zeros change no sum that began at +0.0.
use mathlib.Core.Path.{◌≡◌, refl, ap, ◌∙◌}
use mathlib.Core.Bool.{Bool, true, false, ◌&&◌, cond, false≢true}
use mathlib.Core.List.{List, [], ◌∷◌, zip_with}
use Prim.Native.Nat.{ℕ, zero, suc, ◌+◌, ◌≤◌, ◌<◌}
use native.Mathlib.Omega.{arith}
use lib.ListN.{length, get_or, take, drop}
use lib.Seq.{drop-cons}
use lib.Ieee.{Float, nan, inf, fin, binary64, add, mul}
use lib.Ieee.Fits.{mul-fits}
use Rattle.float.specs.Number.{sum_from}
use Rattle.float.specs.Value.{is_finite, is_zero, Sum}
use Rattle.float.proofs.Zeros.{sum_next, sum_product}
use Rattle.status.specs.Checks.{every}
use Rattle.status.proofs.Laws.{every_at}
use Rattle.matrix.specs.Nonzero.{nonzero_cells}
use Rattle.regression.specs.Sparse.{all_finite}

-- ---- a sum of products

pub zip_with_nil : (f : Float → Float → Float) (xs : List Float) → zip_with f xs [] ≡ []
unfolding zip_with
zip_with_nil f [] = refl
zip_with_nil f (x ∷ xs) = refl

-- it is one that began at +0.0 where it goes on from one
pub products_sum : (row beta : List Float) (s : Float) → Sum s → Sum (sum_from s (zip_with (mul binary64) row beta))
unfolding zip_with
products_sum [] beta s h = h
products_sum (x ∷ row) [] s h = h
products_sum (x ∷ row) (y ∷ beta) s h =
    products_sum row beta (add binary64 s (mul binary64 x y))
    (sum_next s (mul binary64 x y) h (mul-fits binary64 x y))

-- the first n products, and then the others
pub products_split : (n : ℕ) (row beta : List Float) (s : Float)
    → sum_from (sum_from s (zip_with (mul binary64) (take n row) beta))
    (zip_with (mul binary64) (drop n row) (drop n beta))
    ≡ sum_from s (zip_with (mul binary64) row beta)
unfolding zip_with
products_split zero row beta s = refl
products_split (suc n) [] beta s = refl
products_split (suc n) (x ∷ row) [] s = ap (sum_from s) (zip_with_nil (mul binary64) (drop n row))
products_split (suc n) (x ∷ row) (y ∷ beta) s = products_split n row beta (add binary64 s (mul binary64 x y))

-- ---- zeros

-- a zero is finite
zero_finite : (x : Float) → is_zero x ≡ true → is_finite x ≡ true
unfolding is_zero is_finite
zero_finite nan z = absurd (false≢true z)
zero_finite (inf s) z = absurd (false≢true z)
zero_finite (fin s m e) z = refl

-- the cells that are not zero are finite where all are
pub finite_cells : (xs : List Float) → all_finite (nonzero_cells xs) ≡ all_finite xs
unfolding nonzero_cells every
finite_cells [] = refl
finite_cells (x ∷ xs) = by (is_zero x) refl (finite_cells xs)
  where
    by : (b : Bool) → is_zero x ≡ b → every is_finite (nonzero_cells xs) ≡ every is_finite xs
        → every is_finite (cond b (nonzero_cells xs) (x ∷ nonzero_cells xs)) ≡ is_finite x && every is_finite xs
    by true z e = e ∙ rw (zero_finite x z)
    by false z e = ap (λ (t : Bool). is_finite x && t) e

module _ (row beta : List Float) (finite : all_finite beta ≡ true) (wide : length row ≡ length beta) where
  -- the sum with the products of the columns from u on
  abbrev pub summed : Float → ℕ → Float
  summed s u = sum_from s (zip_with (mul binary64) (drop u row) (drop u beta))

  -- one product
  pub summed_next : (s : Float) (u : ℕ) → u < length row
      → summed s u ≡ summed (add binary64 s (mul binary64 (get_or row u nan) (get_or beta u nan))) (suc u)
  unfolding zip_with
  summed_next s u h = rw (drop-cons row u nan h, drop-cons beta u nan (omega arith))

  -- n zeros
  pub summed_zeros : (n u : ℕ) (s : Float) → Sum s → u + n ≤ length row
      → ((i : ℕ) → u ≤ i → i < u + n → is_zero (get_or row i nan) ≡ true)
      → summed s u ≡ summed s (u + n)
  summed_zeros zero u s held h zeros = ap (summed s) {x = u} {y = u + 0} (omega arith)
  summed_zeros (suc n) u s held h zeros =
      let z : is_zero (get_or row u nan) ≡ true = zeros u (omega arith) (omega arith) in
      let same : add binary64 s (mul binary64 (get_or row u nan) (get_or beta u nan)) ≡ s =
      sum_product s (get_or row u nan) (get_or beta u nan) held (zero_finite (get_or row u nan) z)
      (every_at is_finite beta u nan finite (omega arith)) (rw z) in
      summed_next s u (omega arith)
      ∙ ap (λ (t : Float). summed t (suc u)) same
      ∙ summed_zeros n (suc u) s held (omega arith) (λ i a b. zeros i (omega arith) (omega arith))
      ∙ ap (summed s) {x = suc u + n} {y = u + suc n} (omega arith)

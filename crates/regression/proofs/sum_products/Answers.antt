-- `regression::sum_products` meets its contract. The loop's invariant: the sum so far with the products of the columns
-- left is the whole sum.
use mathlib.Core.Path.{◌≡◌, refl, sym, ◌∙◌}
use mathlib.Core.List.{List, zip_with}
use Prim.Native.Nat.{ℕ, ◌≤◌, ◌<◌, min}
use native.Mathlib.Nat.{lt_of_not-le}
use native.Mathlib.Decide.{dec_le}
use native.Mathlib.Numerals.{add-one}
use native.Mathlib.Omega.{arith}
use lib.ListN.{length, drop, drop_of_length-le}
use lib.Seq.{drop-cons}
use lib.Ieee.{Float, nan, binary64, mul, of_bits}
use Rattle.float.specs.Number.{sum_from}
use Rattle.regression.specs.Regression.{dot}
use Rattle.regression.proofs.Dot.{zip_with_nil}
use Rattle.regression.proofs.sum_products.Goals as goal

-- where one of the two has no column left
none_left : (row beta : List Float) (k : ℕ) (s : Float) → min (length row) (length beta) ≤ k
    → sum_from s (zip_with (mul binary64) (drop k row) (drop k beta)) ≡ s
unfolding zip_with
none_left row beta k s h = by (dec_le (length row) k)
  where
    by : Dec (length row ≤ k) → sum_from s (zip_with (mul binary64) (drop k row) (drop k beta)) ≡ s
    by (yes l) = rw (drop_of_length-le row {i = k} l)
    by (no f) = rw (drop_of_length-le beta {i = k} (omega (arith, lt_of_not-le f)), zip_with_nil)

pub loop-k-init : goal.loop-k-init
unfolding of_bits dot
loop-k-init c = refl

pub loop-k-preserved : goal.loop-k-preserved
unfolding zip_with
loop-k-preserved c =
    let a = c.args in
    let h : c.loop-k.k < length a.row.now = omega arith in
    let h' : c.loop-k.k < length a.beta.now = omega arith in
    rw add-one (rw (drop-cons a.row.now c.loop-k.k nan h, drop-cons a.beta.now c.loop-k.k nan h') at c.loop-k.invariant)

pub returns : goal.returns
returns c = sym (none_left c.args.row.now c.args.beta.now c.loop-k.k c.loop-k.sum (omega arith)) ∙ c.loop-k.invariant

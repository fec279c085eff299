-- `regression::predict_listed` meets its contract. The loop's invariant: whatever the row, the sum so far with the
-- products of the columns from u on, which are not the head's, is the whole sum, and the places that are left are those
-- from u on.
use mathlib.Core.Path.{◌≡◌}
use mathlib.Core.List.{List, zip_with}
use Prim.Native.Nat.{ℕ, ◌≤◌}
use lib.ListN.{length, drop}
use lib.Ieee.{Float, binary64, mul}
use Rattle.float.specs.Number.{sum_from}
use Rattle.float.specs.Value.{Sum}
use Rattle.regression.specs.Regression.{dot}
use Rattle.regression.specs.Sparse.{SplitRow}
use Rattle.packed_rows.proofs.Places.{Left}
use Rattle.regression.proofs.predict_listed.Given as goal

abbrev pub invariant-loop-p : goal.invariant-loop-p
invariant-loop-p l =
    Sum l.sum
    × ((row : List Float) → (g : SplitRow (length l.beta) l.head l.places l.values row)
    → (u : ℕ) × Left 0 row l.places l.p u × (length l.head ≤ u) × (u ≤ length row)
    × (sum_from l.sum (zip_with (mul binary64) (drop u row) (drop u l.beta)) ≡ dot row l.beta))

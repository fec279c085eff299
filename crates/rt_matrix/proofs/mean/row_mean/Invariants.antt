-- `rt_matrix::mean::row_mean` meets its contract. The loop's invariant: the sum and the count, carried on over the
-- cells from f on, give the whole row's.
use mathlib.Core.Path.{◌≡◌}
use mathlib.Core.List.{List}
use Prim.Native.Nat.{ℕ, ◌+◌, ◌-◌, ◌≤◌}
use lib.ListN.{length, drop}
use lib.Ieee.{Float}
use Rattle.float.specs.Number.{sum_from, zero64}
use Rattle.rt_matrix.specs.Line.{present}
use Rattle.rt_matrix.specs.Cells.{shares_of}
use Rattle.rt_matrix.proofs.mean.row_mean.Given as goal

-- the shares of the cells from f on
abbrev pub left : List ℕ → List Float → ℕ → List Float
left ms row f = present (shares_of (drop f ms) (drop f row))

abbrev pub invariant-loop-f : goal.invariant-loop-f
invariant-loop-f l =
    (l.f ≤ length l.row) × (l.n ≤ l.f) ×
    (sum_from l.sum (left l.max l.row l.f) ≡ sum_from zero64 (left l.max l.row 0)) ×
    (l.n + length (left l.max l.row l.f) ≡ length (left l.max l.row 0))

abbrev pub decreases-loop-f : goal.decreases-loop-f
decreases-loop-f l = length l.row - l.f

-- `regression::unfold_column` meets its contract. The loop's invariant: the first k cells of the full row are written,
-- and the stored row k starts at `start`.
use mathlib.Core.Path.{◌≡◌}
use mathlib.Core.List.{◌++◌}
use Prim.Native.Nat.{◌+◌}
use lib.ListN.{take, drop}
use Rattle.packed_rows.specs.Falling.{falling_start}
use Rattle.regression.proofs.Unfolding.{full_row}
use Rattle.regression.proofs.unfold_column.Given as goal

abbrev pub invariant-loop-k : goal.invariant-loop-k
invariant-loop-k l =
    (l.start ≡ falling_start (l.d + 1) l.k)
    × (l.row ≡ take l.k (full_row l.d l.stored l.j) ++ drop l.k l.initial.row)

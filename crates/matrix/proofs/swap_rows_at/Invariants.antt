-- `matrix::swap_rows_at` meets its contract. The loop's invariant: whichever rows i and j start at a and b, the rows
-- are the old ones with the first k cells of rows i and j exchanged.
use mathlib.Core.Path.{◌≡◌}
use Prim.Native.Nat.{◌+◌, ◌≤◌}
use lib.ListN.{length}
use Rattle.matrix.specs.Rows.{rows_of, TwoRows}
use Rattle.matrix.proofs.Exchange.{exchanged}
use Rattle.matrix.proofs.swap_rows_at.Given as goal

abbrev pub invariant-loop-k : goal.invariant-loop-k
invariant-loop-k l =
    (l.a + l.cols ≤ length l.initial.cells)
    × (l.b + l.cols ≤ length l.initial.cells)
    × (length l.cells ≡ length l.initial.cells)
    ×
    ((t : TwoRows l.cols l.a l.b (length l.initial.cells))
    → rows_of l.cols t.rows l.cells ≡ exchanged l.k t.i t.j (rows_of l.cols t.rows l.initial.cells))

-- `elimination::reduced::backfill` meets its contract. The loop's invariant: what is left of the rows, from row i - 1
-- up, gives what all of them give; row i starts at `at`, and past the last row the cells end; the flags stay true.
use mathlib.Core.Path.{◌≡◌}
use Prim.Native.Nat.{◌*◌}
use Rattle.matrix.specs.Rows.{rows_of}
use Rattle.elimination.specs.Elimination.{backfill_from, backfill}
use Rattle.elimination.specs.Plain.{PlainRows}
use Rattle.elimination.proofs.reduced.backfill.Given as goal

abbrev pub invariant-loop-i : goal.invariant-loop-i
invariant-loop-i l =
    let n = l.size.n in
    let w = l.size.w in
    (l.at ≡ l.i * w)
    × (backfill_from n l.i (rows_of w n l.cells) ≡ backfill n (rows_of w n l.initial.cells))
    × PlainRows n n l.plain (rows_of w n l.cells)

-- `elimination::echelon::pivot` meets its contract. The loop's invariant: what the search finds from row i on, with
-- the best so far, is what it finds in all; row i starts at `at`.
use mathlib.Core.Path.{◌≡◌}
use mathlib.Core.List.{map}
use Prim.Native.Nat.{◌*◌}
use lib.ListN.{drop}
use Rattle.matrix.specs.Rows.{rows_of}
use Rattle.elimination.specs.Elimination.{cell, largest, pivot_row}
use Rattle.elimination.proofs.echelon.pivot.Given as goal

abbrev pub invariant-loop-i : goal.invariant-loop-i
invariant-loop-i l =
    (l.at ≡ l.i * l.size.w)
    × (largest l.i l.best l.max (map (cell l.k) (drop l.i (rows_of l.size.w l.size.n l.cells)))
    ≡ pivot_row l.h l.k (rows_of l.size.w l.size.n l.cells))

-- `elimination::reduced::left_solved` meets its contract. The loop's invariant: what is left of the rows gives what
-- all of them give; row i starts at `at`.
use mathlib.Core.Path.{◌≡◌}
use Prim.Native.Nat.{◌*◌}
use lib.ListN.{drop}
use Rattle.matrix.specs.Rows.{rows_of}
use Rattle.elimination.specs.Elimination.{solved_from, left_solved}
use Rattle.elimination.proofs.reduced.left_solved.Given as goal

abbrev pub invariant-loop-i : goal.invariant-loop-i
invariant-loop-i l =
    let n = l.size.n in
    let rows = rows_of l.size.w n l.cells in
    (l.at ≡ l.i * l.size.w) × (solved_from n l.i (drop l.i rows) ≡ left_solved n rows)

-- `elimination::echelon::echelon` meets its contract. The loop's invariant: what is left of the columns gives what
-- all of them give; there are at most k pivot rows above, and row h, to which the next one comes, starts at `at_h`.
use mathlib.Core.Path.{◌≡◌}
use Prim.Native.Nat.{◌*◌, ◌≤◌, ◌-◌}
use Rattle.matrix.specs.Rows.{rows_of}
use Rattle.elimination.specs.Elimination.{echelon_from, echelon}
use Rattle.elimination.proofs.echelon.echelon.Given as goal

abbrev pub invariant-loop-k : goal.invariant-loop-k
invariant-loop-k l =
    let n = l.size.n in
    let w = l.size.w in
    (l.h ≤ l.k)
    × (l.at_h ≡ l.h * w)
    × (echelon_from (n - l.k) l.k l.h (rows_of w n l.cells) ≡ echelon n (rows_of w n l.initial.cells))

-- `elimination::walk::each_row` meets its contract. The loop's invariant: a call left each of the first i rows as it
-- is, and the others are as they were; row i starts at `at`.
use mathlib.Core.Path.{◌≡◌}
use mathlib.Core.List.{List}
use Prim.Native.Nat.{ℕ, ◌*◌, ◌<◌, ◌≤◌}
use lib.ListN.{get_or}
use lib.Ieee.{Float}
use Rattle.std.specs.Fork.{ChangesAt}
use Rattle.matrix.specs.Rows.{rows_of}
use Rattle.elimination.proofs.walk.each_row.Given as goal

abbrev pub invariant-loop-i : goal.invariant-loop-i
invariant-loop-i g l =
    let old : List (List Float) = rows_of l.w l.m l.initial.cells in
    let rows : List (List Float) = rows_of l.w l.m l.cells in
    (l.at ≡ l.i * l.w)
    × ((j : ℕ) (d : List Float) → l.i ≤ j → get_or rows j d ≡ get_or old j d)
    × ((j : ℕ) (d : List Float) → j < l.i → ChangesAt g.F.Fn l.change j (get_or old j d) (get_or rows j d))

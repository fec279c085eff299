-- `regression::add_to_rows` meets its contract. The loop's invariant: the first j rows are made anew (`MadeIn`), and
-- start is row j's first cell.
use mathlib.Core.List.{List}
use Prim.Native.Nat.{ℕ, ◌-◌}
use lib.ListN.{length, get_or, drop}
use lib.Ieee.{Float, nan}
use Rattle.matrix.specs.Lists.{zipped}
use Rattle.elimination.proofs.Rows.{MadeIn}
use Rattle.packed_rows.specs.Added.{plus_scaled}
use Rattle.packed_rows.specs.Falling.{falling_rows, falling_start}
use Rattle.regression.proofs.add_to_rows.Given as goal

-- row i with the extended row from column i on, times its cell i, added
abbrev pub scaled : List Float → ℕ → List Float → List Float
scaled ext i row = zipped (plus_scaled (get_or ext i nan)) row (drop i ext)

abbrev pub invariant-loop-j : goal.invariant-loop-j
invariant-loop-j l =
    let v : ℕ = length l.ext in
    MadeIn (v - 1) (falling_rows v (v - 1)) (falling_start v) (scaled l.ext) l.initial.acc l.acc l.start l.j

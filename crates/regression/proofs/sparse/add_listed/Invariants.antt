-- `regression::sparse::add_listed` meets its contract. The loop's invariant: whatever the sample that is listed, the
-- rows before column c have gained it, and the places that are left are those from column c on (`Walked`).
use mathlib.Core.Path.{◌≡◌}
use mathlib.Core.List.{List}
use Prim.Native.Nat.{◌-◌, ◌≤◌}
use lib.ListN.{length}
use lib.Ieee.{Float}
use Rattle.regression.specs.Sparse.{ListedRow}
use Rattle.regression.proofs.Walk.{Walked}
use Rattle.regression.proofs.sparse.add_listed.Given as goal

abbrev pub invariant-loop-m : goal.invariant-loop-m
invariant-loop-m l =
    (l.m ≤ l.k)
    × (length l.acc ≡ length l.initial.acc)
    × ((ext : List Float) → ListedRow l.w l.target l.places l.values ext
    → Walked ext l.initial.acc l.places l.k l.acc l.m)

abbrev pub decreases-loop-m : goal.decreases-loop-m
decreases-loop-m l = l.k - l.m

-- `gauss::first_solved` meets its contract. The loop's invariant: what the ridges from eps on solve is what all of
-- them solve, the ridges from eps on are within the series, and the output is as it was. The measure is how many
-- ridges are left.
use mathlib.Core.Path.{◌≡◌}
use lib.ListN.{length}
use Rattle.matrix.specs.Rows.{rows_of}
use Rattle.elimination.specs.Rows.{augmented}
use Rattle.elimination.specs.Ridge.{ridges_from, first_solved}
use Rattle.gauss.specs.Solve.{solution_of}
use Rattle.elimination.proofs.Ridges.{Within}
use Rattle.gauss.proofs.first_solved.Given as goal

abbrev pub invariant-loop-eps : goal.invariant-loop-eps
invariant-loop-eps l =
    Within l.eps
    × (l.solution ≡ l.initial.solution)
    × (length l.cells ≡ length l.initial.cells)
    ×
    (first_solved l.n (augmented (rows_of l.n l.n l.left) (rows_of l.c l.n l.right)) (ridges_from 16 l.eps)
    ≡ solution_of l.n l.c l.left l.right)

abbrev pub decreases-loop-eps : goal.decreases-loop-eps
decreases-loop-eps l = length (ridges_from 16 l.eps)

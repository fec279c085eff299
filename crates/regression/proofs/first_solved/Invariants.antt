-- `regression::first_solved` meets its contract. The loop's invariant: the normal equations and beta are as they were,
-- and the first ridge from eps on that solves them is the first of the whole series.
use mathlib.Core.Path.{◌≡◌}
use mathlib.Core.List.{List}
use Prim.Native.Nat.{ℕ}
use lib.ListN.{length, drop}
use lib.Ieee.{Float}
use Rattle.elimination.specs.Ridge.{ridges, ridges_from, first_solved}
use Rattle.regression.specs.Workspace.{system_length, equations}
use Rattle.elimination.proofs.Ridges.{Within}
use Rattle.regression.proofs.first_solved.Given as goal

-- no ridge before eps solves the equations, and what else was passed is as it was
abbrev pub Searched : (d : ℕ) (ws₀ beta₀ ws beta : List Float) (eps : Float) → Type 0
Searched d ws₀ beta₀ ws beta eps =
    (length ws ≡ length ws₀)
    × (drop (system_length d) ws ≡ drop (system_length d) ws₀)
    × (beta ≡ beta₀)
    × Within eps
    × (first_solved d (equations d ws₀) (ridges_from 16 eps) ≡ first_solved d (equations d ws₀) ridges)

abbrev pub invariant-loop-eps : goal.invariant-loop-eps
invariant-loop-eps l = Searched l.d l.initial.workspace l.initial.beta l.workspace l.beta l.eps

abbrev pub decreases-loop-eps : goal.decreases-loop-eps
decreases-loop-eps l = length (ridges_from 16 l.eps)

-- `regression::sparse::gather` meets its contract. The loop's invariant: n of the first j cells are not zero, and their
-- places are gathered.
use mathlib.Core.Path.{◌≡◌}
use mathlib.Core.List.{List}
use Prim.Native.Nat.{ℕ, ◌≤◌}
use lib.ListN.{length, take}
use lib.Ieee.{Float}
use Rattle.matrix.specs.Nonzero.{nonzeros, Nonzeros}
use Rattle.regression.proofs.sparse.gather.Given as goal

-- n of the first j cells are not zero, and their places and values are gathered
abbrev pub Gathered : (ext : List Float) (places₀ : List ℕ) (values₀ : List Float) (places : List ℕ)
    (values : List Float) (n j : ℕ) → Type 0
Gathered ext places₀ values₀ places values n j =
    (j ≤ length ext)
    × (n ≡ length (nonzeros 0 (take j ext)))
    × Nonzeros 0 (take j ext) (take n places) (take n values)
    × ((length places ≡ length places₀) × (length values ≡ length values₀))
    × (n ≤ j)

abbrev pub invariant-loop-j : goal.invariant-loop-j
invariant-loop-j l = Gathered l.ext l.initial.places l.initial.values l.places l.values l.n l.j

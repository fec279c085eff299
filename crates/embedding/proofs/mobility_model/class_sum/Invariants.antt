-- `embedding::mobility_model::class_sum` meets its contract. The loop's invariant: the sum so far, with the counts at
-- the numbers that are left, gives the whole.
use mathlib.Core.Path.{◌≡◌}
use mathlib.Core.List.{List, map}
use Prim.Native.Nat.{ℕ}
use lib.Ieee.{Float}
use lib.ListN.{get_or, drop}
use Rattle.float.specs.Number.{zero64, sum_from}
use Rattle.embedding.proofs.mobility_model.class_sum.Given as goal

-- the counts at the numbers from place i on
abbrev pub left : List Float → List ℕ → ℕ → List Float
left counts class i = map (λ k. get_or counts k zero64) (drop i class)

abbrev pub invariant-loop-k : goal.invariant-loop-k
invariant-loop-k l =
    sum_from l.sum (left l.counts l.class l.k-index) ≡ sum_from zero64 (left l.counts l.class 0)

-- `embedding::mobility_model::class_sum` meets its contract. The loop's invariant: the sum so far, with the counts at
-- the numbers that are left, gives the whole.
use mathlib.Core.Path.{sym, ap, ◌∙◌}
use mathlib.Core.List.{List, map}
use Prim.Native.Nat.{ℕ}
use lib.ListN.{get_or, drop_of_length-le}
use Rattle.float.specs.Number.{zero64, sum_from}
use Rattle.embedding.specs.Classes.{class_sum}
use Rattle.embedding.proofs.mobility_model.class_sum.Goals as goal

pub returns : goal.returns
unfolding class_sum
returns c =
    let a = c.args in
    let l = c.loop-k in
    sym
    (ap (λ (ks : List ℕ). sum_from l.sum (map (λ k. get_or a.counts.now k zero64) ks)) (drop_of_length-le a.class.now {i = l.k-index} c.loop-k-test.false))
    ∙ l.invariant

-- `embedding::mobility_model::class_sums` meets its contract. The loop's invariant: the first i sums are those of the
-- first i classes.
use mathlib.Core.Path.{◌≡◌, sym, ap, ◌∙◌}
use mathlib.Core.List.{map}
use Prim.Native.Nat.{ℕ}
use native.Mathlib.Omega.{arith}
use lib.ListN.{take}
use lib.Seq.{take_all}
use Rattle.embedding.specs.Classes.{class_sum, class_sums, classes}
use Rattle.embedding.proofs.mobility_model.class_sums.Goals as goal

pub returns : goal.returns
unfolding class_sum class_sums
returns c =
    let l = c.loop-i in
    let i = l.invariant in
    let all : l.i ≡ 6 = omega arith in
    sym (take_all l.i l.sums (omega arith))
    ∙ i.sums
    ∙ ap (λ (k : ℕ). map (class_sum c.args.counts.now) (take k classes)) all

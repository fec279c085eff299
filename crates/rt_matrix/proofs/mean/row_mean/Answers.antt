-- `rt_matrix::mean::row_mean` meets its contract. The loop's invariant: the sum and the count, carried on over the
-- cells from f on, give the whole row's.
use mathlib.Core.Path.{refl, sym, ap, ap₂, ◌∙◌}
use Prim.Native.Nat.{◌+◌}
use native.Mathlib.Omega.{arith}
use borrow.Author.Rules.{rules}
use lib.ListN.{length, get_or}
use lib.Ieee.{Float, nan, binary64, add, div}
use Rattle.float.specs.Number.{sum_from, number}
use Rattle.rt_matrix.specs.Line.{mean}
use Rattle.rt_matrix.proofs.Row.{left_present, left_absent, left_none, ne_true, ne_false}
use Rattle.rt_matrix.proofs.mean.row_mean.Goals as goal
use Rattle.rt_matrix.proofs.mean.row_mean.Goals.{then-row-f, else-row-f}
use Rattle.rt_matrix.proofs.mean.row_mean.Invariants.{left}

pub loop-f-init : goal.loop-f-init
loop-f-init c = (search rules, search rules, refl, omega arith)

pub loop-f-preserved : goal.loop-f-preserved
loop-f-preserved c =
    let a = c.args in
    let inv = c.loop-f.invariant in
    let f = c.loop-f.f in
    elim c.if-row-f.branch [
      | then-row-f w ↦
          let here = left_present a.max.now a.row.now f (omega arith) (omega arith)
          (ne_true (get_or a.row.now f nan) w.if-row-f.true) in (
            omega arith,
            omega (arith, w.n-is),
            ap (λ (v : Float). sum_from v (left a.max.now a.row.now (f + 1)))
                (w.sum-is ∙ ap (add binary64 c.loop-f.sum) w.share-sum.ensures)
                ∙ ap (sum_from c.loop-f.sum) (sym here) ∙ inv.2,
            omega (arith, ap length here, inv.3, w.n-is),
          )
      | else-row-f w ↦
          let here = left_absent a.max.now a.row.now f (omega arith) (omega arith)
          (ne_false (get_or a.row.now f nan) w.if-row-f.false) in (
            omega arith,
            omega (arith, w.n-is),
            ap (λ (v : Float). sum_from v (left a.max.now a.row.now (f + 1))) w.sum-is
                ∙ ap (sum_from c.loop-f.sum) (sym here) ∙ inv.2,
            omega (arith, ap length here, inv.3, w.n-is),
          )
    ]

pub returns : goal.returns
unfolding mean
returns c =
    let a = c.args in
    let inv = c.loop-f.invariant in
    let done = left_none a.max.now a.row.now c.loop-f.f (omega arith) in
    ap₂ (div binary64)
    (ap (sum_from c.loop-f.sum) (sym done) ∙ inv.2)
    (c.u32_to_f64.ensures ∙ ap number (omega (arith, ap length done, inv.3)))

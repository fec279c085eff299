-- `rt_matrix::points::add_row` meets its contract. The loop's invariant: the first f files' states are done (`up_to
-- f`), and the others are as they were.
use mathlib.Core.Path.{◌≡◌, refl, sym, ap, ap₂, ◌∙◌}
use mathlib.Core.Option.{none}
use native.Mathlib.Omega.{arith}
use lib.ListN.{get_or}
use Rattle.rt_matrix.specs.Cells.{shares_of, at_cell}
use Rattle.rt_matrix.proofs.Lists.{up_to, up_to_at, up_to_step, up_to_all}
use Rattle.rt_matrix.proofs.Row.{length_shares, shares_at}
use Rattle.rt_matrix.proofs.points.add_row.Goals as goal

pub loop-f-init : goal.loop-f-init
unfolding up_to
loop-f-init g c = refl

pub add_cell-requires : goal.add_cell-requires
add_cell-requires g c =
    let s = c.index-states-f.result in
    let f = c.loop-f.f in
    let old : get_or c.loop-f.states f s ≡ get_or c.args.states.now f s =
    ap (λ l. get_or l f s) c.loop-f.invariant ∙ up_to_at _ f c.args.states.now _ s in
    omega (arith, ap g.T.Gather.count old, c.requires.room f s (omega arith))

pub loop-f-preserved : goal.loop-f-preserved
loop-f-preserved g c =
    let a = c.args in
    let f = c.loop-f.f in
    let s = c.index-states-f.result in
    let shares = shares_of a.max.now a.row.now in
    let old : get_or c.loop-f.states f s ≡ get_or a.states.now f s =
    ap (λ l. get_or l f s) c.loop-f.invariant ∙ up_to_at _ f a.states.now shares s in
    up_to_step (at_cell g.T.Gather.step a.y) f a.states.now shares c.loop-f.states _ c.add_cell.new.state s none
    c.loop-f.invariant
    refl
    (c.add_cell.ensures
    ∙ ap₂ (at_cell g.T.Gather.step a.y) old (sym (shares_at a.max.now a.row.now f (omega arith) (omega arith))))
    (omega (arith, length_shares a.max.now a.row.now c.requires.lengths.0))

pub returns : goal.returns
returns g c = c.loop-f.invariant ∙ up_to_all _ _ _ _ (omega arith)

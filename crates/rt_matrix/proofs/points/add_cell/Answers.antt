-- `rt_matrix::points::add_cell` meets its contract: by whether the cell holds a time.
use mathlib.Core.Path.{sym, ap, ◌∙◌}
use mathlib.Core.Option.{Option}
use lib.Ieee.{Float}
use Rattle.rt_matrix.specs.Line.{share}
use Rattle.rt_matrix.specs.Cells.{at_cell}
use Rattle.rt_matrix.proofs.Row.{decode_absent, decode_present, ne_true, ne_false}
use Rattle.rt_matrix.proofs.points.add_cell.Goals as goal

pub returns-then-cell : goal.returns-then-cell
unfolding share at_cell
returns-then-cell g c =
    let a = c.args in
    c.with_point.ensures
    ∙ ap (λ (x : Float). g.T.Gather.step a.state.now x a.y) c.share.ensures
    ∙ sym
    (ap (λ (o : Option Float). at_cell g.T.Gather.step a.y a.state.now (share a.max o))
    (decode_present a.cell (ne_true a.cell c.if-cell.true)))

pub returns-else-cell : goal.returns-else-cell
unfolding share at_cell
returns-else-cell g c =
    let a = c.args in
    sym
    (ap (λ (o : Option Float). at_cell g.T.Gather.step a.y a.state.now (share a.max o))
    (decode_absent a.cell (ne_false a.cell c.if-cell.false)))

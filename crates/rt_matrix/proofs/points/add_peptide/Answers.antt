-- `rt_matrix::points::add_peptide` meets its contract: by whether the peptide is kept.
use mathlib.Core.Path.{sym, ◌∙◌}
use Rattle.rt_matrix.specs.Cells.{shares_of}
use Rattle.rt_matrix.proofs.Peptides.{after_kept, after_dropped}
use Rattle.rt_matrix.proofs.points.add_peptide.Goals as goal

pub returns-then-is_normal64 : goal.returns-then-is_normal64
returns-then-is_normal64 g c =
    let a = c.args in
    c.add_row.ensures
    ∙ after_kept g.T.Gather.step a.states.now (shares_of a.max.now a.row.now) c.row_mean-y.result
    c.row_mean-y.ensures (sym c.is_normal64.ensures ∙ c.if-is_normal64.true)

pub returns-else-is_normal64 : goal.returns-else-is_normal64
returns-else-is_normal64 g c =
    let a = c.args in
    after_dropped g.T.Gather.step a.states.now (shares_of a.max.now a.row.now) c.row_mean-y.result
    c.row_mean-y.ensures (sym c.is_normal64.ensures ∙ c.if-is_normal64.false)

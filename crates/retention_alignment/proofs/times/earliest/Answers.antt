-- `retention_alignment::times::earliest` meets its contract: by whether the cell holds a time.
use mathlib.Core.Path.{sym, ap, ◌∙◌, subst}
use mathlib.Core.Option.{Option}
use lib.Dec.{T}
use lib.Ieee.{Float}
use Rattle.float.specs.Value.{minimum}
use Rattle.rt_matrix.specs.Cells.{decode}
use Rattle.rt_matrix.proofs.Row.{decode_absent, decode_present}
use Rattle.retention_alignment.specs.Observation.{smaller}
use Rattle.retention_alignment.proofs.Absent.{decode_time, decode_smaller}
use Rattle.retention_alignment.proofs.times.earliest.Goals as goal

pub returns-then-cell : goal.returns-then-cell
unfolding smaller
returns-then-cell c =
    let a = c.args in
    ap decode c.widen.ensures
    ∙ decode_time a.t (subst T (sym c.well_formed.1.0.1) tt)
    ∙ sym (ap (λ (o : Option Float). smaller o a.t) (decode_absent a.cell c.if-cell.true))

pub returns : goal.returns
unfolding smaller
returns c =
    let a = c.args in
    let test = c.if-cell.false in
    ap decode (c.min64.ensures ∙ ap (minimum a.cell) c.widen-2.ensures)
    ∙ decode_smaller a.cell a.t test (subst T (sym c.well_formed.1.0.1) tt)
    ∙ sym (ap (λ (o : Option Float). smaller o a.t) (decode_present a.cell test))

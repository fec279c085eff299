-- `retention_alignment::global_alignment` meets its contract: refused by the status, or accepted and done.
use Rattle.std.proofs.lemmas.Result.{err_from_is_err_and}
use Rattle.rt_matrix.specs.Columns.{held_columns}
use Rattle.retention_alignment.specs.Call.{held_input, slices_at}
use Rattle.retention_alignment.proofs.Calls.{refused, accepted_status, accepted_is}
use Rattle.retention_alignment.proofs.global_alignment.Goals as goal

pub returns-in_err-check-clause-aligned : goal.returns-in_err-check-clause-aligned
returns-in_err-check-clause-aligned c =
    let a = c.args in
    let p = err_from_is_err_and c.from_residual.result c.from_residual.ensures.1 in
    rw (p.1, p.2)
    (refused (held_input a.observed) (slices_at a.workspace (held_columns a.columns.now) a.aligned) _
    c.in_err-check.ensures)

pub align_accepted-requires : goal.align_accepted-requires
align_accepted-requires c = accepted_status _ c.in_ok-check.ensures

pub returns-clause-aligned : goal.returns-clause-aligned
returns-clause-aligned c =
    let a = c.args in
    accepted_is (held_input a.observed) (slices_at a.workspace (held_columns a.columns.now) a.aligned) _
    (accepted_status _ c.in_ok-check.ensures) c.align_accepted.ensures.filled

-- `run::checks::check` meets its contract: each check's answer, and the first that fails.
use mathlib.Core.Path.{refl, ap, ◌∙◌}
use lib.ListN.{length}
use Rattle.status.specs.Status.{checked, status_of}
use Rattle.model_fit.proofs.Status.{table_checked}
use Rattle.rt_matrix.specs.Columns.{held_columns}
use Rattle.models.specs.Call.{outputs_held}
use Rattle.run.specs.Call.{Input, Slices, input_at, slices_held, room_of}
use Rattle.run.proofs.CheckLaws.{status_by_lem}
use Rattle.run.proofs.checks.check.Goals as goal

pub returns : goal.returns
returns c =
    let a = c.args in
    let i : Input = input_at a.batch in
    let s : Slices =
    slices_held
    a.workspace (held_columns a.records.now) a.aligned (outputs_held a.retention.now) (outputs_held a.mobility.now) in
    let table =
    ap status_of c.check_table.ensures
    ∙ table_checked a.batch.table.letters.now a.batch.table.offsets.now (length a.batch.table.masses.now) in
    c.first_failing.ensures
    ∙ ap checked
    (status_by_lem i (room_of s) _ _ _ _ _ _
    c.columns_agree.ensures
    c.limits.ensures
    (rw (
      c.workspace_fits.ensures,
      c.hold.ensures,
      c.model_long.ensures,
      c.model_long-2.ensures,
    )
    refl)
    table
    c.all_below.ensures
    c.all_below-2.ensures)

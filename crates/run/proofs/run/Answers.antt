-- `run::run` meets its contract: refused by the status; or the alignment, then retention on the aligned times it wrote,
-- then mobility. What each of them requires is part of what the run's checks have shown.
use Rattle.std.proofs.Common.{rules, refl, ◌∙◌, ◌≤◌, arith, length, take}
use Rattle.std.proofs.lemmas.Result.{err_from_is_err_and}
use lib.ListN.{length-take}
use lib.Seq.{length-take-le}
use Rattle.rt_matrix.specs.Columns.{held_columns}
use Rattle.retention_alignment.specs.Call.{Slices as AlignSlices, held_input}
use Rattle.retention_alignment.proofs.Calls.{accepted_status}
use Rattle.models.specs.Call.{outputs_held, retention_at, mobility_at}
use Rattle.run.specs.Call.{Input, Slices, input_at, slices_at, room_of}
use Rattle.run.proofs.Accepted.{Passed, passed, align_accepts_by}
use Rattle.run.proofs.Filling.{retention_ready_by, mobility_ready_by, run_filled_by, run_refused_by, run_accepted}
use Rattle.run.proofs.run.Goals as goal

pub returns-in_err-check-clause-called : goal.returns-in_err-check-clause-called
returns-in_err-check-clause-called c =
    let a = c.args in
    let i : Input = input_at a.batch in
    let s : Slices =
    slices_at a.workspace (held_columns a.records.now) a.aligned (outputs_held a.retention) (outputs_held a.mobility) in
    let p = err_from_is_err_and c.from_residual.result c.from_residual.ensures.1 in
    rw (p.1, p.2)
    (run_refused_by i s _ _ _ c.in_err-check.ensures (search rules) (search rules))

pub align_accepted-requires : goal.align_accepted-requires
align_accepted-requires c =
    let a = c.args in
    let i : Input = input_at a.batch in
    let s : Slices =
    slices_at a.workspace (held_columns a.records.now) a.aligned (outputs_held a.retention) (outputs_held a.mobility) in
    let p : Passed i (room_of s) = passed i (room_of s) (accepted_status _ (search rules)) in
    align_accepts_by i (room_of s) p (held_input c.observations.result) c.observations.ensures

pub slice_bounds-times-end : goal.slice_bounds-times-end
slice_bounds-times-end c =
    let a = c.args in
    let i : Input = input_at a.batch in
    let s : Slices =
    slices_at a.workspace (held_columns a.records.now) a.aligned (outputs_held a.retention) (outputs_held a.mobility) in
    let p : Passed i (room_of s) = passed i (room_of s) (accepted_status _ c.in_ok-check.ensures) in
    omega (arith, p.long.aligned, c.align_accepted.auto.aligned)

pub slice_bounds-times-end-2 : goal.slice_bounds-times-end-2
slice_bounds-times-end-2 c =
    let a = c.args in
    let i : Input = input_at a.batch in
    let s : Slices =
    slices_at a.workspace (held_columns a.records.now) a.aligned (outputs_held a.retention) (outputs_held a.mobility) in
    let p : Passed i (room_of s) = passed i (room_of s) (accepted_status _ c.in_ok-check.ensures) in
    simp length-take (omega (arith, p.long.aligned, c.align_accepted.auto.aligned))

pub predict_retention-retention-requires : goal.predict_retention-retention-requires
predict_retention-retention-requires c =
    let a = c.args in
    let i : Input = input_at a.batch in
    let s : Slices =
    slices_at a.workspace (held_columns a.records.now) a.aligned (outputs_held a.retention) (outputs_held a.mobility) in
    let p : Passed i (room_of s) = passed i (room_of s) (accepted_status _ c.in_ok-check.ensures) in
    let g = c.align_accepted in
    let long : length i.file ≤ length g.new.aligned = omega (arith, p.long.aligned, g.auto.aligned) in
    let ready = retention_ready_by i s p (retention_at c.observing-input.result) (take (length i.file) g.new.aligned)
    g.new.workspace c.observing-input.ensures.retention (length-take-le (length i.file) g.new.aligned long)
    g.auto.workspace in
    record { checked = ready.0; long = ready.1 }

pub predict_mobility-mobility-requires : goal.predict_mobility-mobility-requires
predict_mobility-mobility-requires c =
    let a = c.args in
    let i : Input = input_at a.batch in
    let s : Slices =
    slices_at a.workspace (held_columns a.records.now) a.aligned (outputs_held a.retention) (outputs_held a.mobility) in
    let p : Passed i (room_of s) = passed i (room_of s) (accepted_status _ c.in_ok-check.ensures) in
    let x = c.predict_retention-retention in
    let ready = mobility_ready_by i s p (mobility_at c.observing-input-2.result) x.new.workspace
    (c.observing-input-2.ensures.mobility refl) (x.auto.workspace ∙ c.align_accepted.auto.workspace) in
    record { checked = ready.0; long = ready.1 }

pub returns-clause-called : goal.returns-clause-called
returns-clause-called c =
    let a = c.args in
    let i : Input = input_at a.batch in
    let s : Slices =
    slices_at a.workspace (held_columns a.records.now) a.aligned (outputs_held a.retention) (outputs_held a.mobility) in
    let p : Passed i (room_of s) = passed i (room_of s) (accepted_status _ c.in_ok-check.ensures) in
    let g = c.align_accepted in
    let x = c.predict_retention-retention in
    let y = c.predict_mobility-mobility in
    let t : AlignSlices = record {
      workspace = g.new.workspace;
      records = held_columns g.new.columns;
      aligned = g.new.aligned;
    } in
    run_accepted i s _ _ (accepted_status _ c.in_ok-check.ensures)
    (run_filled_by i s p
    (held_input c.observations.result) t c.observations.ensures g.ensures.filled g.auto.workspace g.auto.aligned
    (retention_at c.observing-input.result) _ x.result c.observing-input.ensures.retention x.ensures
    (x.auto.workspace ∙ g.auto.workspace)
    (mobility_at c.observing-input-2.result) _ y.result (c.observing-input-2.ensures.mobility refl) y.ensures)

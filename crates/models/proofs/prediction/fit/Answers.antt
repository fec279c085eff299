-- `models::prediction::fit` meets its contract: refused by the status, or fitted.
use mathlib.Core.Path.{◌≡◌, sym, ap, ◌∙◌}
use borrow.Author.Rules.{rules}
use Rattle.std.specs.Prelude.{Err}
use Rattle.status.specs.Status.{checked}
use Rattle.regression.specs.Workspace.{FitSlices}
use Rattle.model_fit.specs.Input.{input_at, status_by}
use Rattle.model_fit.proofs.Status.{accepted_checked, accepted_room}
use Rattle.models.specs.Call.{fit_status}
use Rattle.models.proofs.Calls.{accepted_by, fit_refused, fit_accepted}
use Rattle.models.proofs.prediction.fit.Goals as goal

pub returns-in_err-check : goal.returns-in_err-check
returns-in_err-check c =
    let a = c.args in
    let held : FitSlices = record { workspace = a.workspace.now; coefficients = a.beta.now } in
    let e = ap (λ room. checked (status_by a.model (input_at a.input) room)) (sym c.fit_room-room.ensures)
    ∙ sym c.check.ensures ∙ c.in_err-check.was in
    let r : c.from_residual.result ≡ Err c.in_err-check.field-0.0 = search rules in
    rw r (fit_refused a.model (input_at a.input) held _ e)

pub fit_accepted-requires-clause-checked : goal.fit_accepted-requires-clause-checked
fit_accepted-requires-clause-checked c =
    accepted_checked c.args.model _ c.fit_room-room.result
    (accepted_by _ _ (sym c.check.ensures ∙ c.in_ok-check.was))

pub fit_accepted-requires-clause-beta_value : goal.fit_accepted-requires-clause-beta_value
fit_accepted-requires-clause-beta_value c =
    sym c.fit_room-room.ensures
    ∙ accepted_room c.args.model (input_at c.args.input) c.fit_room-room.result
    (accepted_by _ _ (sym c.check.ensures ∙ c.in_ok-check.was))

pub returns : goal.returns
returns c =
    let a = c.args in
    let held : FitSlices = record { workspace = a.workspace.now; coefficients = a.beta.now } in
    let s : c.check.result ≡ checked (fit_status a.model (input_at a.input) held) =
    c.check.ensures ∙ ap (λ room. checked (status_by a.model (input_at a.input) room)) c.fit_room-room.ensures in
    fit_accepted a.model (input_at a.input) held _ c.fit_accepted.result
    (accepted_by _ _ (sym s ∙ c.in_ok-check.was)) c.fit_accepted.ensures

-- `models::prediction::predict` meets its contract: refused by the status, or accepted and done.
use mathlib.Core.Path.{◌≡◌, sym, ap, ◌∙◌}
use borrow.Author.Rules.{rules}
use Rattle.std.specs.Prelude.{Err}
use Rattle.status.specs.Status.{checked}
use Rattle.model_fit.specs.Input.{input_at, status_by}
use Rattle.model_fit.proofs.Status.{accepted_checked, accepted_room}
use Rattle.models.specs.Call.{PredictSlices, predict_at, predict_status}
use Rattle.models.proofs.Calls.{accepted_by, predict_refused, predict_accepted}
use Rattle.models.proofs.prediction.predict.Goals as goal

pub returns-in_err-check : goal.returns-in_err-check
returns-in_err-check c =
    let a = c.args in
    let held : PredictSlices = predict_at a.workspace a.beta a.predicted a.error in
    let e = ap (λ room. checked (status_by a.model (input_at a.input) room)) (sym c.predict_room-room.ensures)
    ∙ sym c.check.ensures ∙ c.in_err-check.was in
    let r : c.from_residual.result ≡ Err c.in_err-check.field-0.0 = search rules in
    rw r (predict_refused a.model (input_at a.input) held _ e)

pub predict_accepted-requires-clause-checked : goal.predict_accepted-requires-clause-checked
predict_accepted-requires-clause-checked c =
    accepted_checked c.args.model _ c.predict_room-room.result
    (accepted_by _ _ (sym c.check.ensures ∙ c.in_ok-check.was))

pub predict_accepted-requires-clause-error_value : goal.predict_accepted-requires-clause-error_value
predict_accepted-requires-clause-error_value c =
    sym c.predict_room-room.ensures
    ∙ accepted_room c.args.model (input_at c.args.input) c.predict_room-room.result
    (accepted_by _ _ (sym c.check.ensures ∙ c.in_ok-check.was))

pub returns : goal.returns
returns c =
    let a = c.args in
    let held : PredictSlices = predict_at a.workspace a.beta a.predicted a.error in
    let s : c.check.result ≡ checked (predict_status a.model (input_at a.input) held) =
    c.check.ensures ∙ ap (λ room. checked (status_by a.model (input_at a.input) room)) c.predict_room-room.ensures in
    predict_accepted a.model (input_at a.input) held _ c.predict_accepted.result
    (accepted_by _ _ (sym s ∙ c.in_ok-check.was)) c.predict_accepted.ensures

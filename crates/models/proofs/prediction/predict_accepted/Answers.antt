-- `models::prediction::predict_accepted` meets its contract: solved and written, or not solved and left.
use mathlib.Core.Path.{◌≡◌}
use mathlib.Core.Bool.{true, false}
use Rattle.regression.specs.Regression.{Outcome}
use Rattle.model_fit.specs.Input.{input_at}
use Rattle.models.specs.Prediction.{is_solved}
use Rattle.models.specs.Call.{predict_at}
use Rattle.models.proofs.Calls.{predicted_within, completed, uncompleted, is_solved_lem, not_solved_lem}
use Rattle.models.proofs.Calls.{solved_count, solved_predictions, solved_errors}
use Rattle.models.proofs.Calls.{unsolved_count, unsolved_predictions, unsolved_errors}
use borrow.Author.Rules.{rules}
use Rattle.models.proofs.prediction.predict_accepted.Goals as goal

pub returns-in_default : goal.returns-in_default
returns-in_default c =
    let a = c.args in
    let g = c.solve_accepted-solving in
    let r : Outcome = c.outcome.result in
    let u : is_solved r ≡ false = rw c.outcome.ensures (search (rules, not_solved_lem)) in
    let f = uncompleted a.model (input_at a.input) _ g.result g.ensures _ r c.outcome.ensures u in
    predicted_within a.model (input_at a.input) (predict_at a.workspace a.beta a.predicted a.error) _ _ f
    (unsolved_count a.model (input_at a.input) _ _ r f u)
    (unsolved_predictions a.model (input_at a.input) _ _ r f u a.predicted.now)
    (unsolved_errors a.model (input_at a.input) _ _ r f u a.error.now)

pub returns : goal.returns
returns c =
    let a = c.args in
    let g = c.solve_accepted-solving in
    let d = c.order in
    let w = c.write_predictions-written in
    let r : Outcome = c.outcome-2.result in
    let u : is_solved r ≡ true = rw c.outcome-2.ensures (search (rules, is_solved_lem)) in
    let fitted = c.new-fitted.ensures in
    let sse_is = rw (fitted.0, fitted.1) at w.ensures.sse_value in
    let predicted_is = rw (fitted.0, fitted.1) at w.ensures.predicted_after in
    let f =
    completed a.model (input_at a.input) _ g.result g.ensures _ r c.outcome-2.ensures
    d.result d.ensures sse_is in
    predicted_within a.model (input_at a.input) (predict_at a.workspace a.beta a.predicted a.error) _ _ f
    (solved_count a.model (input_at a.input) _ _ r f u d.result d.ensures w.result.inexact
    (rw (fitted.0, fitted.1) at w.ensures.inexact_value))
    (solved_predictions a.model (input_at a.input) _ _ r f u d.result d.ensures a.predicted.now w.new.predicted
    predicted_is)
    (solved_errors a.model (input_at a.input) _ _ r f u d.result d.ensures a.predicted.now w.new.predicted
    predicted_is a.error.now _ c.requires.checked.observed_long c.write_errors.ensures)

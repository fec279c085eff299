-- `model_fit::training::solve_checked` meets its contract: the workspace is cleared, then holds the normal equations
-- of the training rows, and what the solver says of them is the fit but for its squared errors.
use mathlib.Core.Path.{◌≡◌, sym, ap, ◌∙◌}
use mathlib.Core.List.{List}
use native.Mathlib.Omega.{arith}
use lib.ListN.{length}
use Rattle.embedding.specs.Design.{order_of}
use Rattle.regression.specs.Regression.{Sample}
use Rattle.regression.specs.Workspace.{FitSlices}
use Rattle.regression.specs.declared.Sums.{Sums}
use Rattle.regression.proofs.Workspace.{cleared_holds}
use Rattle.model_fit.specs.Input.{input_at}
use Rattle.model_fit.specs.Samples.{training_samples}
use Rattle.model_fit.proofs.Fit.{fitted_none, fitted_unsolved, fitted_solved}
use Rattle.model_fit.proofs.training.solve_checked.Goals as goal

pub accumulate-sums-requires-clause-workspace_value : goal.accumulate-sums-requires-clause-workspace_value
accumulate-sums-requires-clause-workspace_value c =
    c.clear.ensures ∙ cleared_holds (order_of c.args.model) c.args.workspace.now c.requires.workspace.count

pub returns-then-sums-eq0 : goal.returns-then-sums-eq0
returns-then-sums-eq0 c =
    let a = c.args in
    let training : List Sample = training_samples a.model (input_at a.input) in
    let held : FitSlices = record { workspace = a.workspace.now; coefficients = a.beta.now } in
    let counted : c.accumulate-sums.result.n ≡ length training =
    ap (λ (x : Sums). x.n) c.accumulate-sums.ensures.sums in
    fitted_none (order_of a.model) training held c.accumulate-sums.new.workspace c.requires.workspace
    c.accumulate-sums.ensures.holds (sym counted ∙ c.if-sums-eq0.true)

-- the solver has answered
pub returns-in-None : goal.returns-in-None
returns-in-None c =
    let a = c.args in
    let training : List Sample = training_samples a.model (input_at a.input) in
    let held : FitSlices = record { workspace = a.workspace.now; coefficients = a.beta.now } in
    let counted : c.accumulate-sums.result.n ≡ length training =
    ap (λ (x : Sums). x.n) c.accumulate-sums.ensures.sums in
    let solved : FitSlices =
    record { workspace = c.solve.new.workspace; coefficients = c.solve.new.beta } in
    fitted_unsolved (order_of a.model) training held c.accumulate-sums.new.workspace c.requires.workspace
    c.accumulate-sums.ensures.holds (omega arith) solved
    (rw (c.order.ensures, c.in-None.is) at c.solve.ensures)

pub returns-in-Some : goal.returns-in-Some
returns-in-Some c =
    let a = c.args in
    let training : List Sample = training_samples a.model (input_at a.input) in
    let held : FitSlices = record { workspace = a.workspace.now; coefficients = a.beta.now } in
    let counted : c.accumulate-sums.result.n ≡ length training =
    ap (λ (x : Sums). x.n) c.accumulate-sums.ensures.sums in
    let solved : FitSlices =
    record { workspace = c.solve.new.workspace; coefficients = c.solve.new.beta } in
    fitted_solved (order_of a.model) training held c.accumulate-sums.new.workspace c.requires.workspace
    c.accumulate-sums.ensures.holds (omega arith) solved
    _ c.accumulate-sums.result (rw (c.order.ensures, c.in-Some.is) at c.solve.ensures) c.solve.auto.beta
    c.accumulate-sums.ensures.sums

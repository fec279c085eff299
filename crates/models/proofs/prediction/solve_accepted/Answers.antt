-- `models::prediction::solve_accepted` meets its contract: the slices' first cells are lent and come back.
use mathlib.Core.Path.{ap, ◌∙◌}
use native.Mathlib.Omega.{arith}
use Rattle.regression.specs.Workspace.{FitSlices, workspace_cells}
use Rattle.model_fit.specs.Input.{input_at}
use Rattle.models.proofs.Calls.{room, solved_within}
use Rattle.models.proofs.prediction.solve_accepted.Goals as goal

pub returns : goal.returns
returns c =
    let a = c.args in
    let s = c.solve_checked in
    let r = room a.model _ _ c.requires.beta_value in
    let cells = c.workspace_cells-cells.ensures ∙ ap workspace_cells c.order-d.ensures in
    let before : FitSlices = record { workspace = a.workspace.now; coefficients = a.beta.now } in
    let after : FitSlices = record { workspace = s.new.workspace; coefficients = s.new.beta } in
    solved_within a.model (input_at a.input) c.workspace_cells-cells.result c.order-d.result before after s.result
    cells c.order-d.ensures
    (omega (arith, cells, r.cells)) (omega (arith, c.order-d.ensures, r.coefficients)) s.auto.beta s.ensures

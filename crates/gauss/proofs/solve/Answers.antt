-- `gauss::solve` meets its contract: refused where a check fails, and otherwise as the search over the needed parts
-- answers.
use mathlib.Core.Path.{◌≡◌, sym, ◌∙◌}
use Prim.Native.Nat.{◌+◌}
use native.Mathlib.Omega.{arith}
use borrow.Author.Rules.{rules}
use Rattle.std.specs.Prelude.{Err}
use Rattle.gauss.specs.Solve.{system_at, slices_at, needed}
use Rattle.gauss.proofs.Answer.{is_accepted, refused, answered}
use Rattle.gauss.proofs.solve.Goals as goal

pub returns-in_err-check : goal.returns-in_err-check
returns-in_err-check c =
    let e : c.from_residual.result ≡ Err c.in_err-check.field-0.0 = search rules in
    rw e
    (refused (system_at c.args.left c.args.right c.args.n c.args.c) (slices_at c.args.workspace c.args.solution)
    c.in_err-check.field-0.0 (sym c.check.ensures ∙ c.in_err-check.was))

pub returns : goal.returns
returns c =
    let e : c.cell_count.result + c.cell_count-outputs.result ≡ needed c.args.n c.args.c =
    omega (arith, c.cell_count.ensures, c.cell_count-outputs.ensures) in
    let f = c.first_solved in
    answered (system_at c.args.left c.args.right c.args.n c.args.c) (slices_at c.args.workspace c.args.solution)
    (c.cell_count.result + c.cell_count-outputs.result) c.cell_count-outputs.result e c.cell_count-outputs.ensures
    (is_accepted _ _ (sym c.check.ensures ∙ c.in_ok-check.was))
    (record { workspace = f.new.cells; solution = f.new.solution }) f.result
    f.ensures f.auto.cells f.auto.solution

-- `model_fit::training::accumulate` meets its contract. The loop's invariant: the equations in the workspace and
-- the sums are those of the training rows among the first i.
use mathlib.Core.Path.{◌≡◌}
use Rattle.embedding.specs.Design.{order_of}
use Rattle.regression.specs.Regression.{normal, sums_of}
use Rattle.regression.specs.Workspace.{holding}
use Rattle.model_fit.specs.Input.{input_at}
use Rattle.model_fit.proofs.RowLaws.{seen}
use Rattle.model_fit.proofs.training.accumulate.Given as goal

abbrev pub invariant-loop-i : goal.invariant-loop-i
invariant-loop-i l =
    let ss = seen l.model (input_at l.input) l.i in
    record {
      holds : l.workspace ≡ holding (order_of l.model) (normal (order_of l.model) ss);
      sums : l.sums ≡ sums_of ss;
    }

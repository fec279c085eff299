-- `model_fit::training::sum_squares` meets its contract. The loop's invariant: the sum is that of the training rows
-- among the first k.
use mathlib.Core.Path.{◌≡◌}
use Rattle.regression.specs.Regression.{sse as sse_of}
use Rattle.model_fit.specs.Input.{input_at}
use Rattle.model_fit.proofs.RowLaws.{seen}
use Rattle.model_fit.proofs.training.sum_squares.Given as goal

abbrev pub invariant-loop-k : goal.invariant-loop-k
invariant-loop-k l = l.sse ≡ sse_of l.fitted.beta.now (seen l.fitted.model (input_at l.input) l.k)

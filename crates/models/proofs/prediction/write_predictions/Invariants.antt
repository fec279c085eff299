-- `models::prediction::write_predictions` meets its contract. The loop's invariant: the first i cells are the
-- predictions of the first i rows, the others are as they were, the count is of those rows, and the sum is that of the
-- training rows among them.
use mathlib.Core.Path.{◌≡◌}
use mathlib.Core.List.{◌++◌, map}
use lib.ListN.{take, drop}
use Rattle.regression.specs.Regression.{sse as sse_of}
use Rattle.model_fit.specs.Input.{input_at, queries}
use Rattle.model_fit.proofs.RowLaws.{seen}
use Rattle.models.specs.Prediction.{prediction_of, inexact_in}
use Rattle.models.proofs.prediction.write_predictions.Given as goal

abbrev pub invariant-loop-i : goal.invariant-loop-i
invariant-loop-i l =
    let model = l.fitted.model in
    let input = input_at l.input in
    let beta = l.fitted.beta.now in
    let rows = queries input.peptides input.charges in
    let new = map (prediction_of model input.table beta) rows in
    record {
      cells : l.predicted ≡ take l.i new ++ drop l.i l.initial.predicted;
      count : l.written.inexact ≡ inexact_in model input.table beta (take l.i rows);
      squares : l.written.sse ≡ sse_of beta (seen model input l.i);
    }

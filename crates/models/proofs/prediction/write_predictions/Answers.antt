-- `models::prediction::write_predictions` meets its contract. The loop's invariant: the first i cells are the
-- predictions of the first i rows, the others are as they were, the count is of those rows, and the sum is that of the
-- training rows among them.
use mathlib.Core.Path.{◌≡◌, refl, ap, ◌∙◌}
use mathlib.Core.List.{List, map}
use Prim.Native.Nat.{◌≤◌, ◌<◌}
use native.Mathlib.Omega.{arith}
use lib.Ieee.{Float, of_bits}
use lib.ListN.{length, get_or, take}
use lib.Seq.{take_all}
use Rattle.status.specs.Limits.{max_rows}
use Rattle.embedding.specs.Count.{how_many}
use Rattle.embedding.specs.declared.Model.{Model}
use Rattle.regression.specs.Regression.{sse as sse_of}
use Rattle.model_fit.specs.Input.{Input, Query, input_at, query_of, queries}
use Rattle.matrix.proofs.Lists.{overwrite_all}
use Rattle.model_fit.proofs.RowLaws.{length_queries, squares_none, squares_next, seen_all}
use Rattle.models.specs.Prediction.{bounded_of, prediction_of, inexact_in}
use Rattle.models.proofs.Writing.{write_next, how_many_first, count_fits, length_predictions}
use Rattle.models.proofs.Writing.{bounded_at, prediction_at, inexact_next}
use Rattle.models.proofs.prediction.write_predictions.Goals as goal

pub loop-i-init : goal.loop-i-init
unfolding how_many of_bits
loop-i-init c =
    let f = c.args.fitted in
    record { cells = refl; count = refl; squares = squares_none f.model (input_at c.args.input) f.beta.now }

-- no more are counted than rows were seen
pub overflow_add-written : goal.overflow_add-written
overflow_add-written c =
    let f = c.args.fitted in
    let i : Input = input_at c.args.input in
    let l = c.loop-i in
    let rows : List Query = queries i.peptides i.charges in
    let counted : inexact_in f.model i.table f.beta.now (take l.i rows) ≤ l.i = how_many_first _ rows l.i in
    let few : l.written.inexact ≤ l.i = omega (arith, l.invariant.count) in
    let h : l.i < max_rows = omega (arith, c.requires.checked.rows_max) in
    search (count_fits, few, h)

pub loop-i-preserved : goal.loop-i-preserved
loop-i-preserved c =
    let model : Model = c.args.fitted.model in
    let i : Input = input_at c.args.input in
    let l = c.loop-i in
    let x = c.predict_row-x in
    let rows : List Query = queries i.peptides i.charges in
    let beta : List Float = c.args.fitted.beta.now in
    let old : List Float = c.args.predicted.now in
    let new : List Float = map (prediction_of model i.table beta) rows in
    let e = length_predictions model i.table beta i.peptides i.charges in
    let q = length_queries i.peptides i.charges in
    let h : l.i < length i.peptides = omega arith in
    let p : length i.peptides ≤ length old = c.requires.peptide_in_bounds in
    let bounded : c.clamp64-clamped.result ≡ bounded_of model i.table beta (get_or rows l.i (query_of 0 0)) =
    bounded_at model i.table beta i.peptides i.charges l.i _ _ _ h
    x.ensures c.largest-hi.ensures c.clamp64-clamped.ensures in
    let v =
    prediction_at model i.table beta rows l.i (query_of 0 0) _ _ bounded c.narrow-bounded.ensures.value_value in
    record {
      cells =
          write_next new old l.predicted l.i c.narrow-bounded.result.value _ (omega arith) (omega arith) l.invariant.cells
          v;
      count =
          inexact_next model i.table beta rows l.i (query_of 0 0) _ _ _ (omega arith)
          bounded c.narrow-bounded.ensures.exact_value l.invariant.count;
      squares = c.add_square_at.ensures
          ∙ squares_next model i c.requires.checked l.i h beta _ x.result _ l.written.sse
          refl x.ensures refl l.invariant.squares;
    }

pub returns : goal.returns
returns c =
    let model : Model = c.args.fitted.model in
    let i : Input = input_at c.args.input in
    let l = c.loop-i in
    let rows : List Query = queries i.peptides i.charges in
    let beta : List Float = c.args.fitted.beta.now in
    let new : List Float = map (prediction_of model i.table beta) rows in
    let e = length_predictions model i.table beta i.peptides i.charges in
    let q = length_queries i.peptides i.charges in
    record {
      predicted_after = l.invariant.cells ∙ overwrite_all new c.args.predicted.now l.i (omega arith);
      inexact_value = l.invariant.count ∙ ap (inexact_in model i.table beta) (take_all l.i rows (omega arith));
      sse_value = l.invariant.squares ∙ ap (sse_of beta) (seen_all model i c.requires.checked l.i (omega arith));
    }

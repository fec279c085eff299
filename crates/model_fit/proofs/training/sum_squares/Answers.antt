-- `model_fit::training::sum_squares` meets its contract. The loop's invariant: the sum is that of the training rows
-- among the first k.
use mathlib.Core.Path.{refl, sym, ap, ◌∙◌}
use mathlib.Core.Bool.{true, false}
use native.Mathlib.Omega.{arith}
use lib.Ieee.{of_bits}
use Rattle.regression.specs.Regression.{sse as sse_of}
use Rattle.model_fit.specs.Input.{input_at}
use Rattle.model_fit.proofs.RowLaws.{squares_none, squares_next, seen_all}
use Rattle.model_fit.proofs.training.sum_squares.Goals as goal

pub loop-k-init : goal.loop-k-init
unfolding of_bits
loop-k-init c = squares_none c.args.fitted.model (input_at c.args.input) c.args.fitted.beta.now

pub loop-k-preserved-then-not-trains : goal.loop-k-preserved-then-not-trains
loop-k-preserved-then-not-trains c =
    let f = c.args.fitted in
    let l = c.loop-k in
    squares_next f.model (input_at c.args.input) c.requires l.k (omega arith) f.beta.now
    false _ _ l.sse (sym c.trains.ensures ∙ c.if-not-trains.true) refl refl l.invariant

pub loop-k-preserved : goal.loop-k-preserved
loop-k-preserved c =
    let f = c.args.fitted in
    let l = c.loop-k in
    c.add_square-sse.ensures
    ∙ squares_next f.model (input_at c.args.input) c.requires l.k (omega arith) f.beta.now
    true c.predict_row-x.result c.widen.result l.sse
    (sym c.trains.ensures ∙ c.if-not-trains.false)
    c.predict_row-x.ensures c.widen.ensures l.invariant

pub returns : goal.returns
returns c =
    let f = c.args.fitted in
    let l = c.loop-k in
    l.invariant ∙ ap (sse_of f.beta.now) (seen_all f.model (input_at c.args.input) c.requires l.k (omega arith))

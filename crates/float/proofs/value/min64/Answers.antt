-- `float::value::min64` meets its contract, by the tests of the definition.
use Rattle.std.proofs.Common.{sym, ap, ◌∙◌}
use lib.Ieee.{Float, is_nan}
use Rattle.float.specs.Value.{minimum}
use Rattle.float.proofs.Nan.{is_nan_lem, is_nan_not}
use Rattle.float.proofs.value.min64.Goals as goal

pub returns-then-a : goal.returns-then-a
unfolding minimum is_nan
returns-then-a c =
    let a = c.args in
    c.canonical64.ensures ∙ ap (λ (x : Float). minimum x a.b) (sym (is_nan_lem a.a c.if-a.true))

pub returns-then-b-a : goal.returns-then-b-a
unfolding minimum
returns-then-b-a c = simp (is_nan_not c.args.a c.if-a.false, c.if-b-a.true)

pub returns : goal.returns
unfolding minimum
returns c = simp (is_nan_not c.args.a c.if-a.false, c.if-b-a.false)

-- `float::value::clamp64` meets its contract, by the tests of the definition.
use Rattle.float.specs.Value.{clamped}
use Rattle.float.proofs.value.clamp64.Goals as goal

pub returns-then-x-lo : goal.returns-then-x-lo
unfolding clamped
returns-then-x-lo c = simp c.if-x-lo.true

pub returns-then-x-hi : goal.returns-then-x-hi
unfolding clamped
returns-then-x-hi c = simp (c.if-x-lo.false, c.if-x-hi.true)

pub returns : goal.returns
unfolding clamped
returns c = simp (c.if-x-lo.false, c.if-x-hi.false) c.canonical64.ensures

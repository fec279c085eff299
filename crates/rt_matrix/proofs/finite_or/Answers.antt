-- `rt_matrix::finite_or` meets its contract: by the test.
use mathlib.Core.Path.{sym, ap, ◌∙◌}
use mathlib.Core.Bool.{Bool, cond}
use Rattle.rt_matrix.specs.Line.{finite_or}
use Rattle.rt_matrix.proofs.finite_or.Goals as goal

pub returns-then-is_finite64 : goal.returns-then-is_finite64
unfolding finite_or
returns-then-is_finite64 c =
    let a = c.args in
    sym (ap (λ (b : Bool). cond b a.x a.d) (sym c.is_finite64.ensures ∙ c.if-is_finite64.true))

pub returns-else-is_finite64 : goal.returns-else-is_finite64
unfolding finite_or
returns-else-is_finite64 c =
    let a = c.args in
    sym (ap (λ (b : Bool). cond b a.x a.d) (sym c.is_finite64.ensures ∙ c.if-is_finite64.false))

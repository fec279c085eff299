-- `rt_matrix::squares::set_means` meets its contract. The loop's invariant: the first f means are set (`up_to f`).
use mathlib.Core.Path.{◌≡◌, refl, ap, ap₂, ◌∙◌}
use native.Mathlib.Omega.{arith}
use mathlib.Core.List.{List}
use lib.ListN.{get_or}
use lib.Ieee.{Float, nan, binary64, div}
use Rattle.rt_matrix.specs.Cells.{with_mean}
use Rattle.rt_matrix.specs.declared.squares.Squares.{Squares}
use Rattle.rt_matrix.specs.declared.sums.Sums.{Sums}
use Rattle.rt_matrix.proofs.Lists.{up_to, up_to_at, up_to_step, up_to_all}
use Rattle.rt_matrix.proofs.squares.set_means.Goals as goal

pub loop-f-init : goal.loop-f-init
unfolding up_to
loop-f-init c = refl

-- what stands past the end
abbrev no_sums : Sums
no_sums = record { len = 0; dot = nan; sum_x = nan; sum_y = nan }

abbrev squares : Float → Float → Squares
squares m q = record { x_mean = m; sx2 = q }

pub loop-f-preserved : goal.loop-f-preserved
loop-f-preserved c =
    let a = c.args in
    let f = c.loop-f.f in
    let sum_x = (get_or a.sums.now f no_sums).sum_x in
    let old : get_or c.loop-f.squares f (squares nan nan) ≡ get_or a.squares.now f (squares nan nan) =
    ap (λ (l : List Squares). get_or l f (squares nan nan)) c.loop-f.invariant
    ∙ up_to_at with_mean f a.squares.now a.sums.now (squares nan nan) in
    up_to_step with_mean f a.squares.now a.sums.now c.loop-f.squares _ _ (squares nan nan) no_sums
    c.loop-f.invariant
    refl
    (ap₂ (λ (n : Float) (q : Squares). squares (div binary64 sum_x n) q.sx2) c.u32_to_f64.ensures old)
    c.loop-f-test.true

pub returns : goal.returns
returns c = c.loop-f.invariant ∙ up_to_all _ _ _ _ (omega arith)

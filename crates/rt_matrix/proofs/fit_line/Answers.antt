-- `rt_matrix::fit_line` meets its contract: its steps are the definition's.
use mathlib.Core.Path.{◌≡◌, ap, ap₂, ◌∙◌}
use Prim.Native.Nat.{ℕ}
use lib.Ieee.{Float, binary64, sub, mul, div, of_bits}
use Rattle.float.specs.Convert.{narrowed, is_exact}
use Rattle.float.specs.declared.convert.Narrowed.{Narrowed}
use Rattle.float.specs.Number.{number, one64, zero64}
use Rattle.rt_matrix.specs.Line.{finite_or, line_of}
use Rattle.rt_matrix.specs.Columns.{record_by}
use Rattle.rt_matrix.specs.declared.Alignment.{Alignment}
use Rattle.rt_matrix.proofs.fit_line.Goals as goal

-- the record of three numbers that are narrowed, and of a count
abbrev narrowed_by : Float → Float → Float → ℕ → Alignment
narrowed_by m s i n =
    record_by ((narrowed m, narrowed s), (narrowed i, n)) ((is_exact m, is_exact s), is_exact i)

-- `line_of`, with the number of points as the float n too
abbrev fitted : ℕ → ℕ → Float → Float → Float → Float → Float → Alignment
fitted m len n dot sum_x sum_y sx2 =
    let x_mean = div binary64 sum_x n in
    let y_mean = div binary64 sum_y n in
    let slope = div binary64 (sub binary64 dot (mul binary64 (mul binary64 n x_mean) y_mean)) sx2 in
    let intercept = sub binary64 y_mean (mul binary64 slope x_mean) in
    narrowed_by (number m) (finite_or one64 slope) (finite_or zero64 intercept) len

narrowed_is : (m s i : Float) (n : ℕ) {x y z : Narrowed}
    → x.value ≡ narrowed m → x.exact ≡ is_exact m
    → y.value ≡ narrowed s → y.exact ≡ is_exact s
    → z.value ≡ narrowed i → z.exact ≡ is_exact i
    → record_by ((x.value, y.value), (z.value, n)) ((x.exact, y.exact), z.exact) ≡ narrowed_by m s i n
narrowed_is m s i n p p' q q' r r' = cc (p, p', q, q', r, r')

pub returns : goal.returns
unfolding line_of of_bits
returns c =
    let a = c.args in
    let n = a.s.len in
    narrowed_is _ _ _ n c.narrow-max_rt.ensures.value_value c.narrow-max_rt.ensures.exact_value
    c.narrow-narrow_slope.ensures.value_value c.narrow-narrow_slope.ensures.exact_value
    c.narrow-narrow_intercept.ensures.value_value c.narrow-narrow_intercept.ensures.exact_value
    ∙ ap (λ (x : Float). narrowed_by x c.finite_or-slope.result c.finite_or-intercept.result n)
    c.u32_to_f64.ensures
    ∙ ap₂ (λ (x y : Float). narrowed_by (number a.max) x y n) c.finite_or-slope.ensures
    c.finite_or-intercept.ensures
    ∙ ap (λ (x : Float). fitted a.max n x a.s.dot a.s.sum_x a.s.sum_y a.sx2)
    c.u32_to_f64-n.ensures

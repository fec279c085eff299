-- `float::convert::shift_right_nearest` meets its contract: the mask is the remainder by 2 ^ h, and the two tests
-- compare its double with 2 ^ h.
use Rattle.std.proofs.Common.{◌≡◌, ℕ, ◌+◌, ◌-◌, ◌*◌, ◌/◌, ◌%◌, ◌^◌, ◌<◌, ◌≤◌, sym, ap, ◌∙◌, le_trans, le_of_eq, lt_of_lt_of_le, mod-lt, mod-eq_of_lt, div-lt_iff_lt-mul, one-mul, add-one, arith, pow_pos, pow_mono, pow-add}
use lib.Pow.{pow-lt}
use lib.Bits.{bit_and, and_mask}
use Rattle.float.proofs.Round.{by_compare}
use Rattle.float.proofs.convert.shift_right_nearest.Goals as goal

module _ (v h : ℕ) (l : h < 63) where
  small : 2 ^ h < 2 ^ 63
  small = pow-lt l

  unit : 1 * 2 ^ h % 2 ^ 64 ≡ 2 ^ h
  unit = ap (λ (x : ℕ). x % 2 ^ 64) (one-mul (2 ^ h)) ∙ mod-eq_of_lt (omega (arith, small))

  rest : bit_and v (1 * 2 ^ h % 2 ^ 64 - 1) ≡ v % 2 ^ h
  rest = ap (λ (x : ℕ). bit_and v (x - 1)) unit ∙ and_mask v h

  rest_lt : v % 2 ^ h < 2 ^ h
  rest_lt = mod-lt v (pow_pos h)

quotient : (v h : ℕ) → v < 2 ^ 64 → 1 ≤ h → v / 2 ^ h < 2 ^ 63
quotient v h b l =
    (div-lt_iff_lt-mul (pow_pos h)).1
    (lt_of_lt_of_le b (le_trans (pow_mono {i = 64} {j = 63 + h} (omega arith)) (le_of_eq (pow-add 2 63 h))))

pub overflow_sub-r : goal.overflow_sub-r
overflow_sub-r c = omega (arith, unit c.args.v c.args.h c.requires.1, pow_pos c.args.h)

pub overflow_mul-r : goal.overflow_mul-r
overflow_mul-r c =
    let l = c.requires.1 in
    omega
    (arith, rest c.args.v c.args.h l, rest_lt c.args.v c.args.h l, small c.args.v c.args.h l)

pub returns-then-r-u : goal.returns-then-r-u
returns-then-r-u c =
    let a = c.args in
    let l = c.requires.1 in
    sym
    ((by_compare (a.v % 2 ^ a.h * 2) (2 ^ a.h) (a.v / 2 ^ a.h)).0 (omega (arith, rest a.v a.h l, unit a.v a.h l, c.if-r-u.true)))

pub overflow_add-result : goal.overflow_add-result
overflow_add-result c =
    let a = c.args in
    omega (arith, quotient a.v a.h c.ranges.v.fits c.requires.0)

pub returns-then-u-r : goal.returns-then-u-r
returns-then-u-r c =
    let a = c.args in
    let l = c.requires.1 in
    add-one (a.v / 2 ^ a.h)
    ∙ sym
    ((by_compare (a.v % 2 ^ a.h * 2) (2 ^ a.h) (a.v / 2 ^ a.h)).1 (omega (arith, rest a.v a.h l, unit a.v a.h l, c.if-u-r.true)))

pub overflow_add-result-2 : goal.overflow_add-result-2
overflow_add-result-2 c =
    let a = c.args in
    omega (arith, quotient a.v a.h c.ranges.v.fits c.requires.0)

pub returns : goal.returns
returns c =
    let a = c.args in
    let l = c.requires.1 in
    sym
    ((by_compare (a.v % 2 ^ a.h * 2) (2 ^ a.h) (a.v / 2 ^ a.h)).2 (omega (arith, rest a.v a.h l, unit a.v a.h l, c.if-u-r.false, c.if-r-u.false)))

-- `text::decimal::read_signed` meets its contract: by the first byte, as the definition goes. A negative number is -1
-- less what is below it.
use Rattle.std.proofs.Common.{◌≡◌, ℕ, zero, suc, ◌-◌, ◌^◌, ◌≤◌, ◌<◌, List, [], ◌∷◌, Option, Some, None, true, false, nat_eq, drop, take, refl, sym, ap, ◌∙◌, subst, arith}
use native.Mathlib.Nat.{zero-add}
use lib.IntN.{ℤ, pos, negsuc, ◌-ℤ◌}
use lib.Signed.{mag}
use mir.Syntax.{w32}
use mir.Val.{SFits, to_z, of_z}
use mir.Facts.{to_z_pos, to_z-of_z}
use borrow.Author.Tests.{eqb-true}
use Rattle.std.specs.Cmp.Lexicographic.{pointwise}
use Rattle.text.specs.Decimal.{read_decimal, read_signed, negative, non_negative}
use Rattle.text.proofs.Decimals.{decimal_sound}
use Rattle.text.proofs.Numbers.{minus_first, signed_first, signed_plain, negative_is}
use Rattle.text.proofs.Answers.{starts_pointwise}
use Rattle.text.proofs.decimal.read_signed.Goals as goal

-- ---- -1 - k
minus : (k : ℕ) → negsuc 0 -ℤ pos k ≡ negsuc k
minus zero = refl
minus (suc k) = ap (λ (n : ℕ). negsuc (suc n)) (zero-add k)

below : (k : ℕ) → k < 2 ^ 31 → SFits w32 (negsuc 0 -ℤ to_z w32 k)
below k h =
    record {
      sfits =
          subst (λ (z : ℤ). mag z < 2 ^ 31) (sym (ap (λ (z : ℤ). negsuc 0 -ℤ z) (to_z_pos w32 h) ∙ minus k)) h;
    }

less : (k : ℕ) → k < 2 ^ 31 → to_z w32 (of_z w32 (negsuc 0 -ℤ to_z w32 k)) ≡ negsuc k
less k h = to_z-of_z (below k h) ∙ ap (λ (z : ℤ). negsuc 0 -ℤ z) (to_z_pos w32 h) ∙ minus k

-- ---- no `-`
module _ (s : List ℕ) (m : pointwise nat_eq (take 1 s) (45 ∷ []) ≡ false) where
  whole : non_negative (read_decimal (2 ^ 31 - 1) s) ≡ read_signed s
  whole = sym (signed_plain s (sym (minus_first s) ∙ sym (starts_pointwise (45 ∷ []) s) ∙ m))

  whole_none : None ≡ read_decimal (2 ^ 31 - 1) s → None ≡ read_signed s
  unfolding non_negative
  whole_none h = ap non_negative h ∙ whole

  whole_some : (n : ℕ) → Some n ≡ read_decimal (2 ^ 31 - 1) s → Some (pos n) ≡ read_signed s
  unfolding non_negative
  whole_some n h = ap non_negative h ∙ whole

-- a number that was read is at most max
most : (max n : ℕ) (s : List ℕ) → Some n ≡ read_decimal max s → n ≤ max
most max n s h = (decimal_sound max n s (sym h)).1

pub returns-in_err-n : goal.returns-in_err-n
returns-in_err-n c = c.from_residual.ensures ∙ whole_none c.args.s.now c.in_default.ensures.cases c.in_err-n.ensures

pub overflow_cast-result : goal.overflow_cast-result
overflow_cast-result c = record { sfits = omega (arith, most (2 ^ 31 - 1) c.in_ok-n.n c.args.s.now c.in_ok-n.ensures) }

pub returns-in_default : goal.returns-in_default
returns-in_default c =
    ap Some (to_z_pos w32 (omega (arith, most (2 ^ 31 - 1) c.in_ok-n.n c.args.s.now c.in_ok-n.ensures)))
    ∙ whole_some c.args.s.now c.in_default.ensures.cases c.in_ok-n.n c.in_ok-n.ensures

-- ---- the number after the `-`
module _ (s rest : List ℕ) (m : pointwise nat_eq (take 1 s) (45 ∷ []) ≡ true) (r : rest ≡ drop 1 s) where
  behind : (o : Option ℕ) → o ≡ read_decimal (2 ^ 31) rest → negative o ≡ read_signed s
  behind o h =
      let f = eqb-true _ 45 (sym (minus_first s) ∙ sym (starts_pointwise (45 ∷ []) s) ∙ m) in
      ap negative (h ∙ ap (read_decimal (2 ^ 31)) r) ∙ sym (signed_first s f)

pub returns-in_err-n-2 : goal.returns-in_err-n-2
unfolding negative
returns-in_err-n-2 c =
    c.from_residual-in_err-n-2.ensures
    ∙ behind c.args.s.now c.in-Some.digits.now c.in-Some.ensures.cases.0 c.in-Some.ensures.cases.1 None c.in_err-n-2.ensures

pub returns-then-n-eq0 : goal.returns-then-n-eq0
unfolding negative
returns-then-n-eq0 c =
    behind c.args.s.now c.in-Some.digits.now c.in-Some.ensures.cases.0 c.in-Some.ensures.cases.1 (Some 0)
    (ap Some (sym c.if-n-eq0.true) ∙ c.in_ok-n-2.ensures)

pub overflow_cast-result-2 : goal.overflow_cast-result-2
overflow_cast-result-2 c =
    record { sfits = omega (arith, most (2 ^ 31) c.in_ok-n-2.n c.in-Some.digits.now c.in_ok-n-2.ensures) }

pub overflow_sub-result-2 : goal.overflow_sub-result-2
overflow_sub-result-2 c =
    below (c.in_ok-n-2.n - 1) (omega (arith, most (2 ^ 31) c.in_ok-n-2.n c.in-Some.digits.now c.in_ok-n-2.ensures))

pub returns : goal.returns
returns c =
    let n = c.in_ok-n-2.n in
    let k : n - 1 < 2 ^ 31 = omega (arith, most (2 ^ 31) n c.in-Some.digits.now c.in_ok-n-2.ensures, c.if-n-eq0.false) in
    ap Some (less (n - 1) k)
    ∙ sym (negative_is n c.if-n-eq0.false)
    ∙ behind c.args.s.now c.in-Some.digits.now c.in-Some.ensures.cases.0 c.in-Some.ensures.cases.1 (Some n) c.in_ok-n-2.ensures

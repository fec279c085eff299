-- `float::hex::read_hex` meets its contract. The loop's invariant: v and the digits that are left give the value of
-- them all, and those that are left are digits exactly if all are.
use Rattle.std.proofs.Common.{◌≡◌, ℕ, ◌+◌, ◌*◌, ◌^◌, ◌<◌, ◌≤◌, Bool, true, false, ◌&&◌, ◌⊎◌, inl, inr, eqb, eqb-true, ltb, List, [], length, get_or, drop, sym, refl, ap, ◌∙◌, arith, rules, drop_of_length-le, lt-ltb, le-leb, Some, None}
use borrow.Author.Tests.{lt-leb}
use Rattle.std.proofs.lemmas.Bool.Decides.{nat_tests}
use Rattle.float.specs.Hex.{digit_value, all_hex, hex_value, read_hex}
use Rattle.float.proofs.Digits.{read_by, read_not, all_hex_drop, hex_value_drop, more_lt, lt_16_digits}
use Rattle.float.proofs.hex.read_hex.Goals as goal

-- a text of a length that is allowed
of_length : (s : List ℕ) → 1 ≤ length s → length s ≤ 16
    → (all_hex s ≡ true → read_hex s ≡ Some (hex_value s)) × (all_hex s ≡ false → read_hex s ≡ None)
unfolding read_hex
of_length s h l =
    ((λ e. simp (le-leb 1 (length s) h, le-leb (length s) 16 l, e)), (λ e. simp (le-leb 1 (length s) h, le-leb (length s) 16 l, e)))

-- a text with no digit, or more than 16
refused : (s : List ℕ) (b : Bool) → b ≡ eqb (length s) 0 → (b ≡ true) ⊎ ((b ≡ false) × (16 < length s))
    → None ≡ read_hex s
unfolding read_hex
refused s b e (inl t) = simp (lt-leb 1 (length s) (omega (arith, eqb-true (length s) 0 (sym e ∙ t))))
refused s b e (inr f) =
    simp (le-leb 1 (length s) (omega (arith, f.1)), lt-leb (length s) 16 f.1)

pub returns-then-is_empty : goal.returns-then-is_empty
returns-then-is_empty c = refused c.args.s.now c.is_empty.result c.is_empty.ensures c.then-is_empty.either

pub loop-c-init : goal.loop-c-init
loop-c-init c = record { bound = omega arith; value = omega arith; digits = refl }

pub returns-in_err-v : goal.returns-in_err-v
returns-in_err-v c =
    let s = c.args.s.now in
    let i = c.loop-c.c-index in
    let t = read_not (get_or s i 0) (sym c.digit_value.ensures ∙ c.in_err-v.was) in
    let none : c.from_residual.result ≡ None = search rules in
    none ∙ sym
    ((of_length s (omega arith) (omega arith)).1 (sym c.loop-c.invariant.digits ∙ all_hex_drop s i (omega arith) ∙ ap (λ (b : Bool). b && all_hex (drop (i + 1) s)) t))

pub overflow_mul-v : goal.overflow_mul-v
overflow_mul-v c =
    omega (arith, lt_16_digits c.loop-c.v c.loop-c.c-index c.loop-c.invariant.bound (omega arith))

pub overflow_add-v : goal.overflow_add-v
overflow_add-v c =
    let d = read_by (get_or c.args.s.now c.loop-c.c-index 0) c.in_ok-v.field-0 (sym c.digit_value.ensures ∙ c.in_ok-v.was) in
    omega (arith, d.1, lt_16_digits c.loop-c.v c.loop-c.c-index c.loop-c.invariant.bound (omega arith))

pub loop-c-preserved : goal.loop-c-preserved
loop-c-preserved c =
    let s = c.args.s.now in
    let i = c.loop-c.c-index in
    let r = c.in_ok-v.field-0 in
    let d = read_by (get_or s i 0) r (sym c.digit_value.ensures ∙ c.in_ok-v.was) in
    let t : ltb (digit_value (get_or s i 0)) 16 ≡ true = lt-ltb (digit_value (get_or s i 0)) 16 (omega (arith, d.0, d.1)) in
    let h : i < length s = omega arith in record {
      bound = more_lt c.loop-c.v i r c.loop-c.invariant.bound d.1;
      value = ap (λ (x : ℕ). (c.loop-c.v * 16 + x) * 16 ^ length (drop (i + 1) s) + hex_value (drop (i + 1) s)) (sym d.0) ∙ sym (hex_value_drop s i h c.loop-c.v) ∙ c.loop-c.invariant.value;
      digits = ap (λ (b : Bool). b && all_hex (drop (i + 1) s)) (sym t) ∙ sym (all_hex_drop s i h) ∙ c.loop-c.invariant.digits;
    }

pub returns : goal.returns
unfolding all_hex hex_value
returns c =
    let s = c.args.s.now in
    let some : 1 ≤ length s = grind (arith, nat_tests) in
    let z : drop c.loop-c.c-index s ≡ [] = drop_of_length-le s {i = c.loop-c.c-index} (omega arith) in
    let e : c.loop-c.v * 16 ^ 0 + 0 ≡ hex_value s =
    ap (λ (x : List ℕ). c.loop-c.v * 16 ^ length x + hex_value x) (sym z) ∙ c.loop-c.invariant.value in
    let w : c.loop-c.v ≡ hex_value s = omega arith in
    ap Some w ∙ sym ((of_length s some (omega arith)).0 (sym c.loop-c.invariant.digits ∙ ap all_hex z))

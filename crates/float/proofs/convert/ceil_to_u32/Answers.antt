-- `float::convert::ceil_to_u32` meets its contract: the whole part t, and one more where t is below x.
use Rattle.std.proofs.Common.{◌≡◌, ℕ, ◌+◌, ◌-◌, ◌*◌, ◌/◌, ◌%◌, ◌^◌, ◌<◌, ◌≤◌, min, Bool, true, false, not, T, ltb, ℤ, pos, sym, refl, ap, ◌∙◌, subst, true≢false, mod-lt, suc-mul, div-lt_iff_lt-mul, lt_of_mul-lt-mul_right, div-add-mod', le-div_iff_mul-le, mul-one, mul_right_comm, le_of_mul-le-mul_right, add-one, arith, le→leb, lt→ltb, ltb-false, ltb-true, le-ltb, lt-ltb}
use mathlib.Core.Bool.{false≢true}
use lib.Arith.{digits_div}
use lib.Ieee.{Float, nan, inf, fin, binary64, up, down, round, lt, of_int, to_unsigned, in_float, is_nan, fits, of_bits}
use lib.Ieee.Fits.{down_pos, and_i, fits_widens}
use lib.Ieee.Exact.{HasValue}
use lib.Ieee.Back.{round_whole}
use Rattle.float.specs.Convert.{ceiling}
use Rattle.float.proofs.convert.ceil_to_u32.Goals as goal

-- ---- n / d rounded up
module _ (n d : ℕ) (D : 0 < d) where
  up_by_one : n / d * d < n → (n + d - 1) / d ≡ n / d + 1
  up_by_one h =
      let w : n / d * d + n % d ≡ n = div-add-mod' n d in
      let r : n % d < d = mod-lt n D in
      let s : (n / d + 1) * d ≡ n / d * d + d = ap (λ (y : ℕ). y * d) (add-one (n / d)) ∙ suc-mul (n / d) d in
      ap (λ (y : ℕ). y / d) (omega arith) ∙ digits_div (n / d + 1) {m = d} {r = n % d - 1} (omega arith)

  as_it_is : n ≤ n / d * d → (n + d - 1) / d ≡ n / d
  as_it_is h =
      let w : n / d * d + n % d ≡ n = div-add-mod' n d in
      ap (λ (y : ℕ). y / d) (omega arith) ∙ digits_div (n / d) {m = d} {r = d - 1} (omega arith)

  none : n ≤ 0 → 0 ≡ min ((n + d - 1) / d) 4294967295
  none h =
      let q : (n + d - 1) / d < 1 = (div-lt_iff_lt-mul D).1 (omega arith) in
      omega arith

  capped : 2 ^ 32 * d ≤ n → 4294967295 ≡ min ((n + d - 1) / d) 4294967295
  capped h =
      let q : 2 ^ 32 ≤ (n + d - 1) / d = (le-div_iff_mul-le D).1 (omega arith) in
      omega arith

  small : n < 2 ^ 32 * d → n / d < 2 ^ 32
  small h = (div-lt_iff_lt-mul D).1 h

  cut : n < 2 ^ 32 * d → min (n / d) (2 ^ 64 - 1) ≡ n / d
  cut h = omega (arith, small h)

-- ---- a whole number that an f64 holds, below a value
same_test : (a b : ℕ) (t : Bool) → (t ≡ true → a < b) → (t ≡ false → b ≤ a) → t ≡ ltb a b
same_test a b true h k = sym (lt-ltb a b (h refl))
same_test a b false h k = sym (le-ltb a b (k refl))

scaled : (t d n a D : ℕ) → 0 < D → a * 1 ≡ t * D → ltb (a * d) (n * D) ≡ ltb (t * d) n
scaled t d n a D P e =
    let q : a * d ≡ t * d * D = ap (λ (y : ℕ). y * d) (sym (mul-one a) ∙ e) ∙ mul_right_comm t D d in
    ap (λ (y : ℕ). ltb y (n * D)) q
    ∙ same_test (t * d) n (ltb (t * d * D) (n * D))
    (λ h. lt_of_mul-lt-mul_right D (ltb-true (t * d * D) (n * D) h))
    (λ h. le_of_mul-le-mul_right (ltb-false (t * d * D) (n * D) h) P)

compared : (t m : ℕ) (e : ℤ) (x : Float) → HasValue x false t 1
    → lt x (fin false m e) ≡ ltb (t * down e) (m * up e)
unfolding lt
compared t m e nan v = absurd v
compared t m e (inf s) v = absurd v
compared t m e (fin true n d) v = absurd (true≢false v.0)
compared t m e (fin false n d) v = scaled t (down e) (m * up e) (n * up d) (down d) (down_pos d) v.1

of_whole : (t m : ℕ) (e : ℤ) → t < 2 ^ 32
    → lt (of_int binary64 (pos t)) (fin false m e) ≡ ltb (t * down e) (m * up e)
unfolding of_int
of_whole t m e h = compared t m e (round binary64 false t 1) (round_whole binary64 false t (omega arith))

-- ---- x where it is above 0 and below 2 ^ 32, with its whole part t
abbrev Law : Float → Type 0
Law x =
    (t : ℕ) → t ≡ to_unsigned 64 x → (t < 2 ^ 32) × (lt (of_int binary64 (pos t)) x ≡ true → min (t + 1) 4294967295 ≡ ceiling 32 x) × (lt (of_int binary64 (pos t)) x ≡ false → t ≡ ceiling 32 x)

law_fin : (m : ℕ) (e : ℤ) → m * up e < 2 ^ 32 * down e → Law (fin false m e)
unfolding to_unsigned ceiling
law_fin m e l t is =
    let n = m * up e in
    let d = down e in
    let q : t ≡ n / d = is ∙ cut n d (down_pos e) l in
    let tl : t < 2 ^ 32 = subst (λ (y : ℕ). y < 2 ^ 32) (sym q) (small n d (down_pos e) l) in
    let w = of_whole t m e tl in
    let at : t * d ≡ n / d * d = ap (λ (z : ℕ). z * d) q in (
      tl,
      λ h. ap (λ (y : ℕ). min y 4294967295) (ap (λ (y : ℕ). y + 1) q ∙ sym (up_by_one n d (down_pos e) (subst (λ (y : ℕ). y < n) at (ltb-true (t * d) n (sym w ∙ h))))),
      λ h. top t tl ∙ ap (λ (y : ℕ). min y 4294967295) (q ∙ sym (as_it_is n d (down_pos e) (subst (λ (y : ℕ). n ≤ y) at (ltb-false (t * d) n (sym w ∙ h))))),
    )
  where
    top : (t : ℕ) → t < 2 ^ 32 → t ≡ min t 4294967295
    top t h = omega arith

law : (x : Float) → lt (fin false 0 (pos 0)) x ≡ true → lt x (fin false 1 (pos 32)) ≡ true
    → Law x × (T (lt (fin true 1 (pos 0)) x) × T (lt x (fin false 1 (pos 64)))) × T (not (is_nan x))
unfolding lt is_nan
law nan h k = absurd (false≢true h)
law (inf true) h k = absurd (false≢true h)
law (inf false) h k = absurd (false≢true k)
law (fin true m e) h k = absurd (false≢true h)
law (fin false m e) h k =
    let l : m * up e < 2 ^ 32 * down e = omega (arith, ltb-true (m * up e * 1) (1 * 2 ^ 32 * down e) k) in
    (law_fin m e l, (lt→ltb 0 (1 * 1 * down e + m * up e * 1) (omega (arith, down_pos e)), lt→ltb (m * up e * 1) (1 * 2 ^ 64 * down e) (omega arith)), tt)

over : (x : Float) → lt (fin false 0 (pos 0)) x ≡ true → lt x (fin false 1 (pos 32)) ≡ false
    → ◌≡◌ {A = ℕ} 4294967295 (ceiling 32 x)
unfolding lt ceiling
over nan h k = absurd (false≢true h)
over (inf true) h k = absurd (false≢true h)
over (inf false) h k = refl
over (fin true m e) h k = absurd (false≢true h)
over (fin false m e) h k =
    capped (m * up e) (down e) (down_pos e) (omega (arith, ltb-false (m * up e * 1) (1 * 2 ^ 32 * down e) k))

not_above : (x : Float) → lt (fin false 0 (pos 0)) x ≡ false → ◌≡◌ {A = ℕ} 0 (ceiling 32 x)
unfolding lt ceiling
not_above nan h = refl
not_above (inf true) h = refl
not_above (inf false) h = absurd (true≢false h)
not_above (fin true m e) h = refl
not_above (fin false m e) h =
    none (m * up e) (down e) (down_pos e) (omega (arith, ltb-false (0 * 1 * down e) (m * up e * 1) h))

-- ---- the answers
pub truncating_f32_to_u64-t-requires : goal.truncating_f32_to_u64-t-requires
unfolding of_bits
truncating_f32_to_u64-t-requires c =
    let both = (law c.args.x c.if-x.true c.if-x-2.true).1 in
    record { lower_bound = both.0; upper_bound = both.1 }

pub int_to_float-t : goal.int_to_float-t
unfolding in_float of_bits
int_to_float-t c =
    let t = c.truncating_f32_to_u64-t in
    le→leb t.result (2 ^ 53) (omega (arith, ((law c.args.x c.if-x.true c.if-x-2.true).0 t.result t.ensures).0))

pub float_to_float-x : goal.float_to_float-x
unfolding of_bits
float_to_float-x c =
    let x = c.args.x in
    and_i (fits binary64 x) (not (is_nan x))
    (fits_widens x (subst T (sym c.well_formed.0.1) tt)) (law c.args.x c.if-x.true c.if-x-2.true).2

pub returns-then-t-lt4294967295 : goal.returns-then-t-lt4294967295
unfolding of_bits
returns-then-t-lt4294967295 c =
    let t = c.truncating_f32_to_u64-t in
    let e : t.result + 1 ≡ min (t.result + 1) 4294967295 = omega (arith, c.if-t-lt4294967295.true) in
    e ∙ ((law c.args.x c.if-x.true c.if-x-2.true).0 t.result t.ensures).1 c.if-t-x.true

pub returns-then-t-x : goal.returns-then-t-x
unfolding of_bits
returns-then-t-x c =
    let t = c.truncating_f32_to_u64-t in
    let e : 4294967295 ≡ min (t.result + 1) 4294967295 = omega (arith, c.if-t-lt4294967295.false) in
    e ∙ ((law c.args.x c.if-x.true c.if-x-2.true).0 t.result t.ensures).1 c.if-t-x.true

pub overflow_cast-result-then-x-2 : goal.overflow_cast-result-then-x-2
unfolding of_bits
overflow_cast-result-then-x-2 c =
    let t = c.truncating_f32_to_u64-t in
    omega (arith, ((law c.args.x c.if-x.true c.if-x-2.true).0 t.result t.ensures).0)

pub returns-then-x-2 : goal.returns-then-x-2
unfolding of_bits
returns-then-x-2 c =
    let t = c.truncating_f32_to_u64-t in
    ((law c.args.x c.if-x.true c.if-x-2.true).0 t.result t.ensures).2 c.if-t-x.false

pub returns-then-x : goal.returns-then-x
unfolding of_bits
returns-then-x c = over c.args.x c.if-x.true c.if-x-2.false

pub returns : goal.returns
unfolding of_bits
returns c = not_above c.args.x c.if-x.false

-- Zeros in sums, in any format: a zero times a finite number is a zero of one of the signs, a rounded sum is -0.0 only
-- where both terms are, and so a sum that began at +0.0 is never -0.0, and no zero changes it. The same holds of
-- differences. What x == 0.0 and x * 0.0 != 0.0 test, and the patterns of the zeros.
use Rattle.std.proofs.Common.{◌≡◌, ℕ, zero, suc, ◌+◌, ◌-◌, ◌*◌, ◌/◌, ◌%◌, ◌^◌, ◌<◌, ◌≤◌, Bool, true, false, cond, not, ◌&&◌, ◌||◌, T, eqb, ltb, leb, ℤ, pos, negsuc, sym, refl, ap, ◌∙◌, subst, ap₂, true≢false, le_trans, le_of_eq, lt_of_lt_of_le, le_of_suc-le-suc, add-zero, lt_irrefl, mul-le-mul_right, zero-lt-suc, mul_assoc, mul_comm, lt_of_mul-lt-mul_right, mul-lt-mul_of_pos_right, mul-pos, one-mul, lt_of_not-le, le-div_iff_mul-le, zero-mul, mul-one, mul_right_comm, not-le_of_lt, arith, leb→le, pow_pos, pow-add, ltb-true, le-ltb, lt-ltb, ne_eqb}
use mathlib.Core.Bool.{beq, false≢true}
use Prim.Native.Nat.{compare}
use native.Mathlib.Nat.{sub-zero}
use native.Mathlib.Nat.{zero-div}
use native.Mathlib.Nat.{mul-sub}
use lib.Ieee.{Float, nan, inf, fin, Format, binary32, binary64, low, prec, emax, nearest, up, down, unlike, round}
use lib.Ieee.{units, odd, size, span, climb, sum, neg, add, sub, mul, eq, fits, of_bits, to_bits, top}
use lib.Ieee.Digits.{size-lt, size_reaches}
use lib.Ieee.Exact.{HasValue, odd_sign}
use lib.Ieee.Fits.{two, up_pos, down_pos, and_l, and_r, neg-fits, add-fits}
use lib.Ieee.Nearest.{nearest-ge}
use lib.Pow.{pow-lt}
use lib.Ieee.Scale.{round_same}
use Rattle.float.specs.Number.{zero64}
use Rattle.float.specs.Value.{is_finite, is_zero, not_minus_zero, Sum}
use Rattle.float.proofs.Laws.{round_fitting}
use Rattle.float.proofs.Products.{mul_commutes}

-- a zero of the sign s
abbrev pub zero_of : Bool → Float
zero_of s = fin s 0 (pos 0)

-- ---- a product with a zero is a zero

round_nil : (f : Format) (s : Bool) → round f s 0 1 ≡ zero_of s
unfolding round units odd size span climb
round_nil binary32 s = refl
round_nil binary64 s = refl

pub round_zero : (f : Format) (s : Bool) (den : ℕ) → 0 < den → round f s 0 den ≡ zero_of s
round_zero f s den h =
    round_same f s 0 den 0 1 h (zero-lt-suc 0) (zero-mul 1 ∙ sym (zero-mul den)) ∙ round_nil f s

pub mul_zero : (f : Format) (s t : Bool) (e : ℤ) (n : ℕ) (d : ℤ)
    → mul f (fin s 0 e) (fin t n d) ≡ zero_of (unlike s t)
unfolding mul
mul_zero f s t e n d =
    ap (λ (x : ℕ). round f (unlike s t) x (down e * down d)) {x = 0 * up e * (n * up d)} {y = 0}
    (ap (λ (x : ℕ). x * (n * up d)) (zero-mul (up e)) ∙ zero-mul (n * up d))
    ∙ round_zero f (unlike s t) (down e * down d) (mul-pos (down_pos e) (down_pos d))

-- ---- adding a zero

-- a sum's own value, whatever sign the added zero has
module _ (f : Format) where
  same_sign : (s : Bool) (m : ℕ) (e : ℤ) → T (fits f (fin s m e))
      → round f s (m * up e * 1 + 0 * 1 * down e) (down e * 1) ≡ fin s m e
  same_sign s m e h =
      ap₂ (λ (x y : ℕ). round f s x y) {x = m * up e * 1 + 0 * 1 * down e} {y = m * up e}
      (ap (λ (x : ℕ). m * up e * 1 + x) (zero-mul (down e)) ∙ add-zero (m * up e * 1) ∙ mul-one (m * up e))
      (mul-one (down e))
      ∙ round_fitting f s m e h

  other_sign : (s : Bool) (m : ℕ) (e : ℤ) → T (fits f (fin s m e)) → not_minus_zero (fin s m e) ≡ true
      → cond (ltb (m * up e * 1) (0 * 1 * down e))
      (round f (not s) (0 * 1 * down e - m * up e * 1) (down e * 1))
      (round f (s && ltb (0 * 1 * down e) (m * up e * 1)) (m * up e * 1 - 0 * 1 * down e) (down e * 1))
      ≡ fin s m e
  unfolding not_minus_zero
  other_sign s m e h p =
      rw (
        zero-mul (down e),
        mul-one (m * up e),
        mul-one (down e),
        le-ltb (m * up e) 0 (omega arith),
        sub-zero (m * up e),
      )
      (go s m h p)
    where
      go : (s : Bool) (m : ℕ) → T (fits f (fin s m e)) → not_minus_zero (fin s m e) ≡ true
          → round f (s && ltb 0 (m * up e)) (m * up e) (down e) ≡ fin s m e
      go false m h p = round_fitting f false m e h
      go true zero h p = absurd (false≢true p)
      go true (suc m) h p =
          rw (lt-ltb 0 (suc m * up e) (mul-pos (zero-lt-suc m) (up_pos e))) (round_fitting f true (suc m) e h)

  pub add_nothing : (t : Bool) (c : Float) → T (fits f c) → not_minus_zero c ≡ true → add f c (zero_of t) ≡ c
  unfolding add sum
  add_nothing t nan h p = refl
  add_nothing t (inf s) h p = refl
  add_nothing true (fin true m e) h p = same_sign true m e h
  add_nothing false (fin false m e) h p = same_sign false m e h
  add_nothing true (fin false m e) h p = other_sign false m e h p
  add_nothing false (fin true m e) h p = other_sign true m e h p

-- ---- a sum of values that a format holds is -0.0 only where both are

module _ (f : Format) (s : Bool) (q k : ℕ) (h : 1 ≤ q) where
  nonzero : (x : Float) → HasValue x s (q * 2 ^ k) (2 ^ low f) → not_minus_zero x ≡ true
  unfolding not_minus_zero
  nonzero (fin t zero e) v =
      let big : 0 < q * 2 ^ k * down e = mul-pos (mul-pos h (pow_pos k)) (down_pos e) in
      let none : q * 2 ^ k * down e ≡ 0 =
      sym v.1 ∙ ap (λ (x : ℕ). x * 2 ^ low f) (zero-mul (up e)) ∙ zero-mul (2 ^ low f) in
      absurd (lt_irrefl 0 (subst (λ (x : ℕ). 0 < x) none big))
  nonzero (fin t (suc m) e) v = refl
  nonzero nan v = elim v [ ]
  nonzero (inf _) v = elim v [ ]

  units_something : not_minus_zero (units f s q k) ≡ true
  unfolding units not_minus_zero
  units_something = go (ltb (q * 2 ^ k) (2 ^ (low f + suc (emax f))))
    where
      go : (b : Bool) → not_minus_zero (cond b (odd (suc (prec f)) s q k (low f)) (inf s)) ≡ true
      go true = nonzero (odd (suc (prec f)) s q k (low f)) (odd_sign (suc (prec f)) s q k (low f))
      go false = refl

-- a value of the format's smallest size or more doesn't round to a zero
module _ (f : Format) (s : Bool) (num den : ℕ) (h : 0 < den) (g : den ≤ num * 2 ^ low f) where
  abbrev n : ℕ
  n = num * 2 ^ low f

  abbrev k : ℕ
  k = size (n / den) - prec f

  whole_pos : 1 ≤ n / den
  whole_pos = (le-div_iff_mul-le {k = den} {x = 1} {y = n} h).1 (le_trans (le_of_eq (one-mul den)) g)

  some_digits : 0 < size (n / den)
  some_digits = go (size (n / den)) (size-lt (n / den))
    where
      go : (z : ℕ) → n / den < 2 ^ z → 0 < z
      go zero l = absurd (not-le_of_lt l whole_pos)
      go (suc z) l = zero-lt-suc z

  fewer : k < size (n / den)
  fewer = omega (arith, some_digits, two f)

  enough : 2 ^ k * den ≤ n
  enough = (le-div_iff_mul-le {k = den} {x = 2 ^ k} {y = n} h).0 (size_reaches (n / den) k fewer)

  unit_pos : 0 < den * 2 ^ k
  unit_pos = mul-pos h (pow_pos k)

  kept_pos : 1 ≤ nearest (n / (den * 2 ^ k)) (compare (n % (den * 2 ^ k) * 2) (den * 2 ^ k))
  kept_pos =
      le_trans
      ((le-div_iff_mul-le {k = den * 2 ^ k} {x = 1} {y = n} unit_pos).1
      (le_trans (le_of_eq (one-mul (den * 2 ^ k) ∙ mul_comm den (2 ^ k))) enough))
      (nearest-ge (n / (den * 2 ^ k)) (compare (n % (den * 2 ^ k) * 2) (den * 2 ^ k)))

  pub round_something : not_minus_zero (round f s num den) ≡ true
  unfolding round
  round_something =
      units_something f s (nearest (n / (den * 2 ^ k)) (compare (n % (den * 2 ^ k) * 2) (den * 2 ^ k))) k kept_pos

-- a value that the format holds is a whole number of its smallest values
module _ (f : Format) (s : Bool) where
  small_enough : (m : ℕ) (e : ℤ) → T (fits f (fin s (suc m) e)) → down e ≤ 2 ^ low f
  unfolding fits
  small_enough m e h =
      let a = eqb (suc m % 2) 1 in
      let b = ltb (suc m) (2 ^ prec f) in
      let c = leb (down e) (2 ^ low f) in
      let d = ltb (suc m * up e) (2 ^ suc (emax f) * down e) in
      leb→le (down e) (2 ^ low f) (and_r (a && b) c (and_l (a && b && c) d h))

  exponent_le : (a l : ℕ) → 2 ^ a ≤ 2 ^ l → a ≤ l
  exponent_le a l h =
      le_of_suc-le-suc (lt_of_not-le (λ (g : suc l ≤ a). lt_irrefl (2 ^ l) (lt_of_lt_of_le (pow-lt g) h)))

  pub in_units : (m : ℕ) (e : ℤ) → T (fits f (fin s m e)) → (j : ℕ) × (m * up e * 2 ^ low f ≡ j * down e)
  in_units zero e h =
      (0, ap (λ (x : ℕ). x * 2 ^ low f) (zero-mul (up e)) ∙ zero-mul (2 ^ low f) ∙ sym (zero-mul (down e)))
  in_units (suc m) (pos k) h = (suc m * 2 ^ k * 2 ^ low f, sym (mul-one _))
  in_units (suc m) (negsuc k) h =
      let l : suc k ≤ low f = exponent_le (suc k) (low f) (small_enough m (negsuc k) h) in
      let p : 2 ^ low f ≡ 2 ^ (low f - suc k) * 2 ^ suc k =
      ap (λ (x : ℕ). 2 ^ x) {x = low f} {y = low f - suc k + suc k} (omega arith)
      ∙ pow-add 2 (low f - suc k) (suc k) in (
        suc m * 1 * 2 ^ (low f - suc k),
        ap (λ (x : ℕ). suc m * 1 * x) p ∙ sym (mul_assoc (suc m * 1) (2 ^ (low f - suc k)) (2 ^ suc k)),
      )

-- ---- the sum

-- two whole numbers of units that differ, differ by a unit at least
gap : (a b p c x y : ℕ) → a * p ≡ x * c → b * p ≡ y * c → 0 < p → a < b → c ≤ (b - a) * p
gap a b p c x y ha hb hp l =
    let xy : x < y =
    lt_of_mul-lt-mul_right c
    (subst (λ (z : ℕ). z < y * c) ha (subst (λ (z : ℕ). a * p < z) hb (mul-lt-mul_of_pos_right l hp))) in
    let one : 1 ≤ y - x = omega arith in
    let e : (b - a) * p ≡ (y - x) * c =
    mul_comm (b - a) p
    ∙ mul-sub p b a
    ∙ ap₂ (λ (u v : ℕ). u - v) (mul_comm p b ∙ hb) (mul_comm p a ∙ ha)
    ∙ ap₂ (λ (u v : ℕ). u - v) (mul_comm y c) (mul_comm x c)
    ∙ sym (mul-sub c y x)
    ∙ mul_comm c (y - x) in
    le_trans (le_trans (le_of_eq (sym (one-mul c))) (mul-le-mul_right c one)) (le_of_eq (sym e))

module _ (f : Format) (s t : Bool) (m n : ℕ) (e d : ℤ) (hm : T (fits f (fin s m e))) (hn : T (fits f (fin t n d))) where
  abbrev A : ℕ
  A = m * up e * down d

  abbrev B : ℕ
  B = n * up d * down e

  abbrev C : ℕ
  C = down e * down d

  C-pos : 0 < C
  C-pos = mul-pos (down_pos e) (down_pos d)

  -- both as whole numbers of the smallest values, times C
  A-units : (x : ℕ) × (A * 2 ^ low f ≡ x * C)
  A-units =
      let j = in_units f s m e hm in (
        j.0,
        mul_right_comm (m * up e) (down d) (2 ^ low f)
            ∙ ap (λ (z : ℕ). z * down d) j.1
            ∙ mul_assoc j.0 (down e) (down d),
      )

  B-units : (y : ℕ) × (B * 2 ^ low f ≡ y * C)
  B-units =
      let j = in_units f t n d hn in (
        j.0,
        mul_right_comm (n * up d) (down e) (2 ^ low f)
            ∙ ap (λ (z : ℕ). z * down e) j.1
            ∙ mul_assoc j.0 (down d) (down e)
            ∙ ap (λ (z : ℕ). j.0 * z) (mul_comm (down d) (down e)),
      )

  less : A < B → not_minus_zero (round f t (B - A) C) ≡ true
  less l =
      round_something f t (B - A) C C-pos
      (gap A B (2 ^ low f) C A-units.0 B-units.0 A-units.1 B-units.1 (pow_pos (low f)) l)

  more : (b : Bool) → B < A → not_minus_zero (round f b (A - B) C) ≡ true
  more b l =
      round_something f b (A - B) C C-pos
      (gap B A (2 ^ low f) C B-units.0 A-units.0 B-units.1 A-units.1 (pow_pos (low f)) l)

  both : 0 < A → not_minus_zero (round f s (A + B) C) ≡ true
  both l =
      round_something f s (A + B) C C-pos
      (le_trans
      (gap 0 A (2 ^ low f) C 0 A-units.0 (zero-mul (2 ^ low f) ∙ sym (zero-mul C)) A-units.1 (pow_pos (low f)) l)
      (mul-le-mul_right (2 ^ low f) (le_trans (le_of_eq (sub-zero A)) (omega arith))))

-- a rounding with the sign clear is not -0.0
clear : (m : ℕ) (e : ℤ) → not_minus_zero (fin false m e) ≡ true
unfolding not_minus_zero
clear zero e = refl
clear (suc m) e = refl

-- a value whose sign is clear
positive_value : (x : Float) (a c : ℕ) → HasValue x false a c → not_minus_zero x ≡ true
positive_value (fin true m e) a c v = absurd (true≢false v.0)
positive_value (fin false m e) a c v = clear m e
positive_value nan a c v = elim v [ ]
positive_value (inf _) a c v = elim v [ ]

units_clear : (f : Format) (q i : ℕ) → not_minus_zero (units f false q i) ≡ true
unfolding units not_minus_zero
units_clear f q i = go (ltb (q * 2 ^ i) (2 ^ (low f + suc (emax f))))
  where
    go : (b : Bool) → not_minus_zero (cond b (odd (suc (prec f)) false q i (low f)) (inf false)) ≡ true
    go true =
        positive_value (odd (suc (prec f)) false q i (low f)) (q * 2 ^ i) (2 ^ low f)
        (odd_sign (suc (prec f)) false q i (low f))
    go false = refl

round_clear : (f : Format) (num den : ℕ) → not_minus_zero (round f false num den) ≡ true
unfolding round
round_clear f num den = units_clear f _ _

-- So a sum that is not -0.0 stays so, whatever is added: one that began at +0.0 never is.
pub sum_not_minus_zero : (f : Format) (c p : Float) → T (fits f c) → T (fits f p) → not_minus_zero c ≡ true
    → not_minus_zero (add f c p) ≡ true
unfolding add sum not_minus_zero
sum_not_minus_zero f nan p hc hp h = refl
sum_not_minus_zero f (inf s) nan hc hp h = refl
sum_not_minus_zero f (inf true) (inf true) hc hp h = refl
sum_not_minus_zero f (inf true) (inf false) hc hp h = refl
sum_not_minus_zero f (inf false) (inf true) hc hp h = refl
sum_not_minus_zero f (inf false) (inf false) hc hp h = refl
sum_not_minus_zero f (inf s) (fin t n d) hc hp h = refl
sum_not_minus_zero f (fin s m e) nan hc hp h = refl
sum_not_minus_zero f (fin s m e) (inf t) hc hp h = refl
sum_not_minus_zero f (fin false m e) (fin false n d) hc hp h = round_clear f _ _
sum_not_minus_zero f (fin true zero e) (fin true n d) hc hp h = absurd (false≢true h)
sum_not_minus_zero f (fin true (suc m) e) (fin true n d) hc hp h =
    both f true true (suc m) n e d hc hp (mul-pos (mul-pos (zero-lt-suc m) (up_pos e)) (down_pos d))
sum_not_minus_zero f (fin false m e) (fin true n d) hc hp h = go (ltb a b) (ltb-true a b)
  where
    a : ℕ
    a = m * up e * down d

    b : ℕ
    b = n * up d * down e

    c : ℕ
    c = down e * down d

    go : (x : Bool) → (x ≡ true → a < b)
        → not_minus_zero (cond x (round f true (b - a) c) (round f false (a - b) c)) ≡ true
    go true l = less f false true m n e d hc hp (l refl)
    go false l = round_clear f _ _
sum_not_minus_zero f (fin true m e) (fin false n d) hc hp h = go (ltb a b) (ltb b a) (ltb-true b a)
  where
    a : ℕ
    a = m * up e * down d

    b : ℕ
    b = n * up d * down e

    c : ℕ
    c = down e * down d

    go : (x y : Bool) → (y ≡ true → b < a)
        → not_minus_zero (cond x (round f false (b - a) c) (round f (true && y) (a - b) c)) ≡ true
    go true y l = round_clear f _ _
    go false true l = more f true false m n e d hc hp true (l refl)
    go false false l = round_clear f _ _

-- ---- sums that began at +0.0

pub sum_next : (c p : Float) → Sum c → T (fits binary64 p) → Sum (add binary64 c p)
sum_next c p s h =
    record { held = add-fits binary64 c p; plain = sum_not_minus_zero binary64 c p s.held h s.plain }

pub sum_starts : Sum zero64
unfolding not_minus_zero fits of_bits
sum_starts = record { held = tt; plain = refl }

-- a zero of either sign changes no sum that began at +0.0
pub sum_zero : (c : Float) (t : Bool) → Sum c → add binary64 c (zero_of t) ≡ c
sum_zero c t s = add_nothing binary64 t c s.held s.plain

-- nor does a product with a zero in it, of two finite numbers
zero_times : (x y : Float) → is_zero x ≡ true → is_finite y ≡ true → (t : Bool) × (mul binary64 x y ≡ zero_of t)
unfolding is_zero is_finite
zero_times nan y h g = absurd (false≢true h)
zero_times (inf s) y h g = absurd (false≢true h)
zero_times (fin s (suc m) e) y h g = absurd (false≢true h)
zero_times (fin s zero e) nan h g = absurd (false≢true g)
zero_times (fin s zero e) (inf t) h g = absurd (false≢true g)
zero_times (fin s zero e) (fin t n d) h g = (_, mul_zero binary64 s t e n d)

pub sum_product : (c x y : Float) → Sum c → is_finite x ≡ true → is_finite y ≡ true → is_zero x || is_zero y ≡ true
    → add binary64 c (mul binary64 x y) ≡ c
sum_product c x y s f g h = by (is_zero x) refl h
  where
    by : (b : Bool) → is_zero x ≡ b → b || is_zero y ≡ true → add binary64 c (mul binary64 x y) ≡ c
    by true z k = let p = zero_times x y z g in ap (add binary64 c) p.1 ∙ sum_zero c p.0 s
    by false z k =
        let p = zero_times y x k f in
        ap (add binary64 c) (mul_commutes binary64 x y ∙ p.1) ∙ sum_zero c p.0 s

-- ---- differences

-- what is not -0.0 stays so, whatever is subtracted
pub sub_next : (c p : Float) → Sum c → T (fits binary64 p) → Sum (sub binary64 c p)
unfolding sub
sub_next c p s h = sum_next c (neg p) s (neg-fits binary64 p h)

-- a zero times a finite number, subtracted, changes nothing but -0.0
pub sub_product : (c x y : Float) → Sum c → is_zero x ≡ true → is_finite y ≡ true
    → sub binary64 c (mul binary64 x y) ≡ c
unfolding sub neg
sub_product c x y s h g =
    let p = zero_times x y h g in ap (λ (z : Float). add binary64 c (neg z)) p.1 ∙ sum_zero c (not p.0) s

-- ---- what the tests say

-- x == 0.0
pub is_zero_lem : (x : Float) → eq x zero64 ≡ is_zero x
unfolding eq is_zero of_bits
is_zero_lem nan = refl
is_zero_lem (inf s) = refl
is_zero_lem (fin s zero e) = rw (zero-mul (up e), zero-mul (down e)) (both s)
  where
    both : (s : Bool) → beq s false || true ≡ true
    both true = refl
    both false = refl
is_zero_lem (fin s (suc m) e) =
    let some : 0 < suc m * up e = mul-pos (zero-lt-suc m) (up_pos e) in
    let differs : suc m * up e ≡ 0 → ⊥ = λ h. lt_irrefl 0 (subst (λ (n : ℕ). 0 < n) h some) in
    rw (zero-mul (down e), mul-one (suc m * up e), ne_eqb (suc m * up e) 0 differs)

-- the pattern of a zero
pub zero_bits : (x : Float) → is_zero x ≡ true → not_minus_zero x ≡ eqb (to_bits binary64 x) 0
unfolding not_minus_zero is_zero to_bits size span climb
zero_bits nan h = absurd (false≢true h)
zero_bits (inf s) h = absurd (false≢true h)
zero_bits (fin s zero e) h = rw (zero-mul (up e), zero-div (down e)) (signs s)
  where
    signs : (s : Bool) → not s ≡ eqb (cond s (top binary64) 0 + 0 + 0) 0
    signs true = refl
    signs false = refl
zero_bits (fin s (suc m) e) h = absurd (false≢true h)

-- what is no zero
pub nonzero_plain : (x : Float) → is_zero x ≡ false → not_minus_zero x ≡ true
unfolding not_minus_zero is_zero
nonzero_plain nan h = refl
nonzero_plain (inf s) h = refl
nonzero_plain (fin s zero e) h = absurd (true≢false h)
nonzero_plain (fin s (suc m) e) h = refl

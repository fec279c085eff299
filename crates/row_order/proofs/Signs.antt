-- Where the sign of a zero dies, operation by operation: alike times give shares that are equal or both zeros; such
-- shares, and their products, give the same sum where it began at +0.0; and the square of what such a share is away
-- from a number is the same.
use mathlib.Core.Path.{◌≡◌, refl, sym, ap, ◌∙◌, subst}
use mathlib.Core.Bool.{Bool, true, false, ◌&&◌, ◌||◌, beq, false≢true}
use mathlib.Core.List.{List, Forall₂}
use Prim.Native.Nat.{ℕ, zero, suc, ◌*◌, ◌<◌}
use native.Mathlib.Nat.{mul-one, one-mul, zero-mul, mul-pos, zero-lt-suc, lt_irrefl, zero-add, sub-zero}
use native.Mathlib.Omega.{arith}
use lib.IntN.{ℤ, pos}
use lib.Dec.{T, eqb, eqb-suc-zero}
use lib.Ieee.{Float, nan, inf, fin, binary64, fits, up, down, unlike, round, is_nan, eq}
use lib.Ieee.{sum, add, neg, sub, mul, div}
use lib.Ieee.Fits.{up_pos, down_pos, nan-fits, inf-fits, add-fits, mul-fits, div-fits}
use lib.Ieee.Scale.{round_same}
use borrow.Author.Tests.{eqb-true, lt-ltb}
use Rattle.status.proofs.Laws.{and_true}
use Rattle.float.specs.Number.{sum_from}
use Rattle.float.specs.Value.{Sum}
use Rattle.float.proofs.Zeros.{zero_of, round_zero, mul_zero, sum_next, sum_zero}
use Rattle.row_order.specs.Alike.{alike}

-- values of an f64 that are equal, or zeros of whatever signs
pub data Near : Float → Float → Type 0 where
  same : (x : Float) → T (fits binary64 x) → Near x x
  zeros : (s t : Bool) → Near (zero_of s) (zero_of t)

near_of : (x y : Float) → T (fits binary64 x) → x ≡ y → Near x y
near_of x y h e = subst (Near x) e (same x h)

zeros_of : (x y : Float) (s t : Bool) → x ≡ zero_of s → y ≡ zero_of t → Near x y
zeros_of x y s t p q = rw (p, q) (zeros s t)

-- ---- the share: alike times by the same longest time

-- what `==` says of two numbers
module _ (s t : Bool) (m n : ℕ) (e d : ℤ) (h : eq (fin s m e) (fin t n d) ≡ true) where
  both_tests : (eqb (m * up e * down d) (n * up d * down e) ≡ true)
      × ((beq s t || eqb (m * up e * down d) 0) ≡ true)
  unfolding eq
  both_tests = and_true (eqb (m * up e * down d) (n * up d * down e)) (beq s t || eqb (m * up e * down d) 0) h

  same_size : m * up e * down d ≡ n * up d * down e
  same_size = eqb-true (m * up e * down d) (n * up d * down e) both_tests.0

  same_sign : 0 < m → s ≡ t
  same_sign l = go s t both_tests.1
    where
      nonzero : eqb (m * up e * down d) 0 ≡ true → ⊥
      nonzero g =
          let some : 0 < m * up e * down d = mul-pos (mul-pos l (up_pos e)) (down_pos d) in
          lt_irrefl 0 (subst (λ (z : ℕ). 0 < z) (eqb-true (m * up e * down d) 0 g) some)

      go : (s t : Bool) → (beq s t || eqb (m * up e * down d) 0) ≡ true → s ≡ t
      go true true g = refl
      go false false g = refl
      go true false g = absurd (nonzero g)
      go false true g = absurd (nonzero g)

-- a number over another, as one fraction for each of two ways to write it
across : (a b x y c k : ℕ) → a * y ≡ b * x → a * c * (k * y) ≡ b * c * (k * x)
across a b x y c k h = omega (arith, ap (λ (z : ℕ). z * (c * k)) h)

-- a zero equals no other number
never : (e d : ℤ) (n : ℕ) → 0 < n → 0 * up e * down d ≡ n * up d * down e → ⊥
never e d n l h =
    let none = sym h ∙ ap (λ (z : ℕ). z * down d) (zero-mul (up e)) ∙ zero-mul (down d) in
    lt_irrefl 0 (subst (λ (z : ℕ). 0 < z) none (mul-pos (mul-pos l (up_pos d)) (down_pos e)))

-- two numbers that are not zero and are equal
div_same : (s : Bool) (m n : ℕ) (e d : ℤ) (w : Float) → suc m * up e * down d ≡ suc n * up d * down e
    → div binary64 (fin s (suc m) e) w ≡ div binary64 (fin s (suc n) d) w
unfolding div
div_same s m n e d nan h = refl
div_same s m n e d (inf u) h = refl
div_same s m n e d (fin u zero c) h = rw (eqb-suc-zero m, eqb-suc-zero n)
div_same s m n e d (fin u (suc k) c) h =
    let some : 0 < suc k * up c = mul-pos (zero-lt-suc k) (up_pos c) in
    rw (eqb-suc-zero k)
    (round_same binary64 (unlike s u)
    (suc m * up e * down c) (suc k * up c * down e) (suc n * up d * down c) (suc k * up c * down d)
    (mul-pos some (down_pos e)) (mul-pos some (down_pos d))
    (across (suc m * up e) (suc n * up d) (down e) (down d) (down c) (suc k * up c) h))

-- two zeros
div_zeros : (s t : Bool) (e d : ℤ) (w : Float) → Near (div binary64 (fin s 0 e) w) (div binary64 (fin t 0 d) w)
unfolding div
div_zeros s t e d nan = same nan (nan-fits binary64)
div_zeros s t e d (inf u) = zeros (unlike s u) (unlike t u)
div_zeros s t e d (fin u zero c) = same nan (nan-fits binary64)
div_zeros s t e d (fin u (suc k) c) = rw (eqb-suc-zero k) (zeros_of _ _ (unlike s u) (unlike t u) (over s e) (over t d))
  where
    over : (s : Bool) (e : ℤ)
        → round binary64 (unlike s u) (0 * up e * down c) (suc k * up c * down e) ≡ zero_of (unlike s u)
    over s e =
        let some : 0 < suc k * up c * down e = mul-pos (mul-pos (zero-lt-suc k) (up_pos c)) (down_pos e) in
        rw (zero-mul (up e), zero-mul (down c)) (round_zero binary64 (unlike s u) (suc k * up c * down e) some)

div_equal : (s t : Bool) (m n : ℕ) (e d : ℤ) (w : Float) → eq (fin s m e) (fin t n d) ≡ true
    → Near (div binary64 (fin s m e) w) (div binary64 (fin t n d) w)
div_equal s t zero zero e d w h = div_zeros s t e d w
div_equal s t zero (suc n) e d w h = absurd (never e d (suc n) (zero-lt-suc n) (same_size s t 0 (suc n) e d h))
div_equal s t (suc m) zero e d w h = absurd (never d e (suc m) (zero-lt-suc m) (sym (same_size s t (suc m) 0 e d h)))
div_equal s t (suc m) (suc n) e d w h =
    near_of _ _ (div-fits binary64 (fin s (suc m) e) w)
    (div_same s m n e d w (same_size s t (suc m) (suc n) e d h)
    ∙ ap (λ (b : Bool). div binary64 (fin b (suc n) d) w) (same_sign s t (suc m) (suc n) e d h (zero-lt-suc m)))

beq_is : (s t : Bool) → beq s t ≡ true → s ≡ t
beq_is true true h = refl
beq_is false false h = refl
beq_is true false h = absurd (false≢true h)
beq_is false true h = absurd (false≢true h)

pub div_near : (x y w : Float) → alike x y ≡ true → Near (div binary64 x w) (div binary64 y w)
unfolding is_nan eq
div_near nan nan w h = same (div binary64 nan w) (div-fits binary64 nan w)
div_near nan (inf t) w h = absurd (false≢true h)
div_near nan (fin t n d) w h = absurd (false≢true h)
div_near (inf s) nan w h = absurd (false≢true h)
div_near (inf s) (inf t) w h =
    near_of _ _ (div-fits binary64 (inf s) w) (ap (λ (b : Bool). div binary64 (inf b) w) (beq_is s t h))
div_near (inf s) (fin t n d) w h = absurd (false≢true h)
div_near (fin s m e) nan w h = absurd (false≢true h)
div_near (fin s m e) (inf t) w h = absurd (false≢true h)
div_near (fin s m e) (fin t n d) w h = div_equal s t m n e d w h

-- ---- sums that began at +0.0

pub near_sum : {xs ys : List Float} → Forall₂ Near xs ys → (c : Float) → Sum c → sum_from c xs ≡ sum_from c ys
near_sum Forall₂.nil c h = refl
near_sum (Forall₂.cons {l₁ = xs} {l₂ = ys} n r) c h = step n (near_sum r)
  where
    step : {x y : Float} → Near x y → ((c : Float) → Sum c → sum_from c xs ≡ sum_from c ys)
        → sum_from (add binary64 c x) xs ≡ sum_from (add binary64 c y) ys
    step (same x f) more = more (add binary64 c x) (sum_next c x h f)
    step (zeros s t) more = rw (sum_zero c s h, sum_zero c t h) (more c h)

-- ---- a product

pub mul_near : {x y : Float} → Near x y → (w : Float) → Near (mul binary64 x w) (mul binary64 y w)
unfolding mul
mul_near (same x f) w = same (mul binary64 x w) (mul-fits binary64 x w)
mul_near (zeros s t) nan = same nan (nan-fits binary64)
mul_near (zeros s t) (inf u) = same nan (nan-fits binary64)
mul_near (zeros s t) (fin u n d) =
    zeros_of _ _ (unlike s u) (unlike t u) (mul_zero binary64 s u (pos 0) n d) (mul_zero binary64 t u (pos 0) n d)

-- ---- a zero less a number, and its square

square_near : {x y : Float} → Near x y → mul binary64 x x ≡ mul binary64 y y
square_near (same x f) = refl
square_near (zeros s t) =
    mul_zero binary64 s s (pos 0) 0 (pos 0)
    ∙ ap zero_of (unsigned s ∙ sym (unsigned t))
    ∙ sym (mul_zero binary64 t t (pos 0) 0 (pos 0))
  where
    unsigned : (s : Bool) → unlike s s ≡ false
    unsigned true = refl
    unsigned false = refl

-- a zero and a number: the number itself rounded, whatever the zero's sign
zero_and : (s u : Bool) (n : ℕ) (d : ℤ)
    → add binary64 (zero_of s) (fin u (suc n) d) ≡ round binary64 u (suc n * up d) (down d)
unfolding add sum
zero_and true true n d = rw (zero-mul (down d), zero-add, mul-one (suc n * up d), one-mul (down d))
zero_and false false n d = rw (zero-mul (down d), zero-add, mul-one (suc n * up d), one-mul (down d))
zero_and true false n d =
    let some = lt-ltb 0 (suc n * up d) (mul-pos (zero-lt-suc n) (up_pos d)) in
    rw (zero-mul (down d), mul-one (suc n * up d), one-mul (down d), some, sub-zero)
zero_and false true n d =
    let some = lt-ltb 0 (suc n * up d) (mul-pos (zero-lt-suc n) (up_pos d)) in
    rw (zero-mul (down d), mul-one (suc n * up d), one-mul (down d), some, sub-zero)

-- two zeros
zero_over : (s : Bool) (d : ℤ) → round binary64 s 0 (1 * down d) ≡ zero_of s
zero_over s d = round_zero binary64 s (1 * down d) (mul-pos (zero-lt-suc 0) (down_pos d))

zero_zero : (s u : Bool) (d : ℤ) → add binary64 (zero_of s) (fin u 0 d) ≡ zero_of (s && u)
unfolding add sum
zero_zero true true d = rw (zero-mul (down d), zero-mul (up d)) (zero_over true d)
zero_zero false false d = rw (zero-mul (down d), zero-mul (up d)) (zero_over false d)
zero_zero true false d = rw (zero-mul (down d), zero-mul (up d)) (zero_over false d)
zero_zero false true d = rw (zero-mul (down d), zero-mul (up d)) (zero_over false d)

add_near : {x y : Float} → Near x y → (w : Float) → Near (add binary64 x w) (add binary64 y w)
unfolding add
add_near (same x f) w = same (add binary64 x w) (add-fits binary64 x w)
add_near (zeros s t) nan = same nan (nan-fits binary64)
add_near (zeros s t) (inf u) = same (inf u) (inf-fits binary64 u)
add_near (zeros s t) (fin u zero d) = zeros_of _ _ (s && u) (t && u) (zero_zero s u d) (zero_zero t u d)
add_near (zeros s t) (fin u (suc n) d) =
    near_of _ _ (add-fits binary64 (zero_of s) (fin u (suc n) d)) (zero_and s u n d ∙ sym (zero_and t u n d))

pub square_same : {x y : Float} → Near x y → (m : Float)
    → mul binary64 (sub binary64 x m) (sub binary64 x m) ≡ mul binary64 (sub binary64 y m) (sub binary64 y m)
unfolding sub
square_same n m = square_near (add_near n (neg m))

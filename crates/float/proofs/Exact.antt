-- When narrowing loses nothing: just where an f32 holds the value, and that is no NaN.
use Rattle.std.proofs.Common.{◌≡◌, ℕ, zero, suc, ◌+◌, ◌-◌, ◌*◌, ◌/◌, ◌^◌, Bool, true, false, cond, ◌&&◌, ◌||◌, T, eqb, ltb, ℤ, sym, refl, ap, ◌∙◌, subst, eq-eqb, eqb-true}
use mathlib.Core.Bool.{beq, false≢true}
use lib.Ieee.{
  Float,
  nan,
  inf,
  fin,
  Format,
  binary32,
  binary64,
  prec,
  emax,
  low,
  up,
  down,
  size,
  odd,
  units,
  round,
  eq,
  is_nan,
  fits,
}
use lib.Ieee.Fits.{round-fits, fits_widens}
use lib.Ieee.Nearest.{closest}
use Rattle.float.specs.Convert.{narrowed, is_exact}
use Rattle.float.proofs.Laws.{same_value, narrowed_fits, narrowed_same}

-- ---- the sign that `round` is handed is its result's
abbrev Signed : Float → Bool → Type 0
Signed nan s = ⊥
Signed (inf t) s = t ≡ s
Signed (fin t m e) s = t ≡ s

odd_signed : (d : ℕ) (s : Bool) (q k l : ℕ) → Signed (odd d s q k l) s
unfolding odd
odd_signed d s zero k l = refl
odd_signed d s (suc q) k l = refl

units_signed : (f : Format) (s : Bool) (q k : ℕ) → Signed (units f s q k) s
unfolding units
units_signed f s q k = go (ltb (q * 2 ^ k) (2 ^ (low f + suc (emax f))))
  where
    go : (b : Bool) → Signed (cond b (odd (suc (prec f)) s q k (low f)) (inf s)) s
    go true = odd_signed (suc (prec f)) s q k (low f)
    go false = refl

round_signed : (f : Format) (s : Bool) (num den : ℕ) → Signed (round f s num den) s
unfolding round
round_signed f s num den =
    let n = num * 2 ^ low f in
    let k = size (n / den) - prec f in
    units_signed f s (closest n (den * 2 ^ k)) k

-- ---- equal to a number of that sign: the same value
and_left : (a b : Bool) → (a && b) ≡ true → a ≡ true
and_left true b h = refl
and_left false b h = h

of_equal : (v : Float) (s : Bool) (m : ℕ) (e : ℤ) → Signed v s → T (fits binary64 v)
    → T (fits binary64 (fin s m e)) → eq v (fin s m e) ≡ true → v ≡ fin s m e
unfolding eq
of_equal nan s m e g p q h = absurd g
of_equal (inf t) s m e g p q h = absurd (false≢true h)
of_equal (fin t n d) s m e g p q h =
    let A = n * up d * down e in
    let B = m * up e * down d in
    let k : fin t n d ≡ fin s n d = ap (λ (b : Bool). fin b n d) g in
    k
    ∙ same_value binary64 s n d m e (subst (λ (v : Float). T (fits binary64 v)) k p) q
    (eqb-true A B (and_left (eqb A B) (beq t s || eqb A 0) h))

-- ---- the flag
pub exact_same : (x : Float) → T (fits binary64 x) → is_exact x ≡ true → narrowed x ≡ x
unfolding narrowed
exact_same nan f h = unfold eq in absurd (false≢true h)
exact_same (inf s) f h = refl
exact_same (fin s m e) f h =
    let v = round binary32 s (m * up e) (down e) in
    of_equal v s m e (round_signed binary32 s (m * up e) (down e))
    (fits_widens v (round-fits binary32 s (m * up e) (down e))) f h

pub exact_fits : (x : Float) → T (fits binary64 x) → is_exact x ≡ true → T (fits binary32 x)
exact_fits x f h = subst (λ (v : Float). T (fits binary32 v)) (exact_same x f h) (narrowed_fits x)

pub nan_inexact : is_exact nan ≡ false
unfolding narrowed eq
nan_inexact = refl

beq_self : (s : Bool) → beq s s ≡ true
beq_self true = refl
beq_self false = refl

eq_self : (x : Float) → is_nan x ≡ false → eq x x ≡ true
unfolding eq is_nan
eq_self nan h = sym h
eq_self (inf s) h = beq_self s
eq_self (fin s m e) h = let A = m * up e * down e in simp (eq-eqb A A refl, beq_self s)

pub fits_exact : (x : Float) → T (fits binary32 x) → is_nan x ≡ false → is_exact x ≡ true
fits_exact x f h = ap (λ (v : Float). eq v x) (narrowed_same x f) ∙ eq_self x h

-- The order of two floats, as the tests of `lib.Ieee` write it.
use Rattle.std.proofs.Common.{◌≡◌, ℕ, zero, suc, ◌*◌, ◌^◌, ◌<◌, ◌≤◌, Bool, true, false, ◌&&◌, ◌||◌, T, ltb, ℤ, pos, negsuc, sym, refl, ap, ◌∙◌, true≢false, one-mul, mul-one, arith, eqb→eq, pow_pos, ltb-false, ltb-true}
use native.Mathlib.Nat.{pow-succ'}
use mathlib.Core.Bool.{false≢true}
use lib.Ieee.{Float, nan, inf, fin, Format, up, down, lt, fits}
use Rattle.float.specs.Value.{is_finite}

pub and_true : (a b : Bool) → (a && b) ≡ true → (a ≡ true) × (b ≡ true)
and_true true b h = (refl, h)
and_true false b h = absurd (false≢true h)

-- a test of `le`, on two values of one sign: u is how the two compare for equality
pub or_le : (a b : ℕ) (u z : Bool) → (u ≡ true → a ≡ b) → (ltb a b || (u && z)) ≡ true → a ≤ b
or_le a b u z e = go (ltb a b) (ltb-true a b)
  where
    go : (t : Bool) → (t ≡ true → a < b) → (t || (u && z)) ≡ true → a ≤ b
    go true l h = omega (arith, l refl)
    go false l h = omega (arith, e (and_true u z h).0)

pub or_gt : (a b : ℕ) (u : Bool) → (a ≡ b → u ≡ true) → (ltb a b || (u && true)) ≡ false → b < a
or_gt a b u e = go (ltb a b) u (ltb-false a b) e
  where
    strict : b ≤ a → (a ≡ b → ⊥) → b < a
    strict l n = omega arith

    go : (t u : Bool) → (t ≡ false → b ≤ a) → (a ≡ b → u ≡ true) → (t || (u && true)) ≡ false
        → b < a
    go true u l e h = absurd (true≢false h)
    go false true l e h = absurd (true≢false h)
    go false false l e h = strict (l refl) (λ d. false≢true (e d))

two_up : (p : ℕ) → 0 < p → 2 * p ≡ 1 → ⊥
two_up p h e = omega arith

flat : (e : ℤ) → up e * down e ≡ 1 → e ≡ pos 0
flat (pos zero) h = refl
flat (pos (suc k)) h = absurd (two_up (2 ^ k) (pow_pos k) (sym (pow-succ' 2 k) ∙ sym (mul-one (2 ^ suc k)) ∙ h))
flat (negsuc k) h = absurd (two_up (2 ^ k) (pow_pos k) (sym (pow-succ' 2 k) ∙ sym (one-mul (2 ^ suc k)) ∙ h))

-- a zero that fits is written in one way
pub zero_is : (f : Format) (s : Bool) (m : ℕ) (e : ℤ) → m ≡ 0 → T (fits f (fin s m e))
    → fin false 0 (pos 0) ≡ fin false m e
unfolding fits
zero_is f s zero e z t = ap (λ (d : ℤ). fin false 0 d) (sym (flat e (eqb→eq (up e * down e) 1 t)))
zero_is f s (suc m) e z t = absurd (omega arith)

-- ---- between the infinities
pub under_inf : (x : Float) → lt x (inf false) ≡ true → lt (inf true) x ≡ is_finite x
unfolding lt is_finite
under_inf nan h = refl
under_inf (inf true) h = refl
under_inf (inf false) h = absurd (false≢true h)
under_inf (fin s m e) h = refl

pub not_under_inf : (x : Float) → lt x (inf false) ≡ false → false ≡ is_finite x
unfolding lt is_finite
not_under_inf nan h = refl
not_under_inf (inf s) h = refl
not_under_inf (fin s m e) h = absurd (true≢false h)

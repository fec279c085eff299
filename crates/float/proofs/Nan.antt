-- A NaN by its tests, of a value and of a bit pattern, over the format.
use Rattle.std.proofs.Common.{◌≡◌, ℕ, ◌*◌, ◌%◌, ◌≤◌, Bool, true, false, not, T, sym, refl, ◌∙◌, subst, true≢false}
use lib.Arith.{le→nltb}
use lib.Ieee.{Float, nan, inf, fin, Format, binary32, binary64, div, ne, is_nan, of_bits, nan_bits, hid, ones, top}
use lib.Ieee.Bits.{nan_bits_is, nan_bits_above}
use lib.Ieee.Compare.{differs_from_itself}

-- ---- the test `x != x`
pub is_nan_lem : (x : Float) → ne x x ≡ true → x ≡ nan
is_nan_lem x h = differs_from_itself x (subst T (sym h) tt)

pub is_nan_not : (x : Float) → ne x x ≡ false → is_nan x ≡ false
unfolding ne is_nan
is_nan_not nan e = absurd (true≢false e)
is_nan_not (inf s) e = refl
is_nan_not (fin s m e) d = refl

-- ---- the constant `0.0 / 0.0`
pub zero_by_zero : (f : Format) → div f (of_bits f 0) (of_bits f 0) ≡ nan
unfolding div of_bits
zero_by_zero binary32 = refl
zero_by_zero binary64 = refl

-- so it is any x that fails the test
pub the_nan : (f : Format) (x : Float) → ne x x ≡ true → div f (of_bits f 0) (of_bits f 0) ≡ x
the_nan f x h = zero_by_zero f ∙ sym (is_nan_lem x h)

-- ---- patterns
the_only : (x : Float) → T (is_nan x) → x ≡ nan
unfolding is_nan
the_only nan t = refl
the_only (inf s) t = absurd t
the_only (fin s m e) t = absurd t

pub pattern_nan : (f : Format) (b : ℕ) → T (nan_bits f b) → of_bits f b ≡ nan
pattern_nan f b h = the_only (of_bits f b) (subst T (nan_bits_is f b) h)

-- not above an infinity's, the sign left out
pub not_above : (f : Format) (b : ℕ) → b % top f ≤ ones f * hid f → T (not (nan_bits f b))
not_above f b h = subst (λ (t : Bool). T (not t)) (sym (nan_bits_above f b)) (le→nltb (ones f * hid f) (b % top f) h)

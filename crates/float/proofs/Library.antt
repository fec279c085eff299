-- The library's tests, sizes and narrowing of a float are those of `specs/Value.antt` and `specs/Convert.antt`.
use Rattle.std.proofs.Common.{◌≡◌, ℕ, ◌*◌, ◌^◌, Bool, true, false, ◌&&◌, ◌||◌, eqb, ltb, leb, sym, refl, arith, le-leb, eq-eqb, eqb-true}
use Rattle.std.specs.Float.{float_is_finite, float_with_sign, round_to_format}
use Rattle.std.specs.Float as library
use lib.Ieee.{Float, nan, inf, fin, binary32, binary64, up, down, lt, le, of_bits}
use borrow.Author.Tests.{lt-leb}
use Rattle.float.specs.Convert.{narrowed}
use Rattle.float.specs.Value.{is_finite, is_normal, magnitude}
use Rattle.float.proofs.Order.{or_le, or_gt}

pub finite_is : (x : Float) → float_is_finite x ≡ is_finite x
unfolding float_is_finite is_finite
finite_is nan = refl
finite_is (inf s) = refl
finite_is (fin s m e) = refl

pub magnitude_is : (x : Float) → float_with_sign false x ≡ magnitude x
unfolding float_with_sign magnitude
magnitude_is nan = refl
magnitude_is (inf s) = refl
magnitude_is (fin s m e) = refl

-- the test of `le` between d, the smallest normal value's size, and b, x's
reached : (d b : ℕ) → (ltb (1 * 1 * d) b || (eqb (1 * 1 * d) b && true)) ≡ leb d b
reached d b = go (ltb (1 * 1 * d) b || (eqb (1 * 1 * d) b && true)) refl
  where
    go : (t : Bool) → (ltb (1 * 1 * d) b || (eqb (1 * 1 * d) b && true)) ≡ t → t ≡ leb d b
    go true h =
        sym (le-leb d b (omega (arith, or_le (1 * 1 * d) b (eqb (1 * 1 * d) b) true (eqb-true (1 * 1 * d) b) h)))
    go false h =
        sym (lt-leb d b (omega (arith, or_gt (1 * 1 * d) b (eqb (1 * 1 * d) b) (eq-eqb (1 * 1 * d) b) h)))

pub normal_is : (x : Float) → library.is_normal binary64 x ≡ is_normal binary64 x
unfolding float_is_finite float_with_sign is_normal lt le of_bits
normal_is nan = refl
normal_is (inf s) = refl
normal_is (fin s m e) = reached (down e) (m * up e * 2 ^ 1022)

pub narrowed_is : (x : Float) → round_to_format binary32 x ≡ narrowed x
unfolding round_to_format narrowed
narrowed_is nan = refl
narrowed_is (inf s) = refl
narrowed_is (fin s m e) = refl

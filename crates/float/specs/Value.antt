-- Tests of a value, its size, the smaller of two, and a value brought into a range. Definitions only.
use Rattle.std.specs.Prelude.{◌≡◌, zero, suc, ◌-◌, ◌*◌, ◌^◌, Bool, true, false, cond, not, T, is_nan, nat_le, Float}
use Rattle.std.specs.Float.{nan, inf, fin, Format, binary64}
use Rattle.std.specs.Float.Ieee.{emax, up, down, lt, fits}

-- neither a NaN nor an infinity
unfoldable pub is_finite : Float → Bool
is_finite nan = false
is_finite (inf s) = false
is_finite (fin s m e) = true

-- +0.0 or -0.0
unfoldable pub is_zero : Float → Bool
is_zero nan = false
is_zero (inf s) = false
is_zero (fin s zero e) = true
is_zero (fin s (suc m) e) = false

-- anything but -0.0
unfoldable pub not_minus_zero : Float → Bool
not_minus_zero nan = true
not_minus_zero (inf s) = true
not_minus_zero (fin s zero e) = not s
not_minus_zero (fin s (suc m) e) = true

-- a value of the format, and not -0.0: a sum that began at +0.0 is one, whatever values were added
pub record Sum (c : Float) : Type 0 where
  pub held : T (fits binary64 c)
  pub plain : not_minus_zero c ≡ true

-- finite, and of the size of the format's smallest normal value or more, 2 ^ -126 or 2 ^ -1022: not zero and not
-- subnormal
unfoldable pub is_normal : Format → Float → Bool
is_normal f nan = false
is_normal f (inf s) = false
is_normal f (fin s m e) = nat_le (down e) (m * up e * 2 ^ (emax f - 1))

-- |x|
unfoldable pub magnitude : Float → Float
magnitude nan = nan
magnitude (inf s) = inf false
magnitude (fin s m e) = fin false m e

-- the smaller of the two: a NaN yields to a number, and of two equal values it is a
unfoldable pub minimum : Float → Float → Float
minimum a b = cond (is_nan a) b (cond (lt b a) b a)

-- lo where x is below it, else hi where x is above it, else x: a NaN stays
unfoldable pub clamped : Float → Float → Float → Float
clamped lo hi x = cond (lt x lo) lo (cond (lt hi x) hi x)

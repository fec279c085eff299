-- An `f64` as an `f32`, and a float rounded up to a whole number. Definitions only.
use Rattle.std.specs.Prelude.{ℕ, ◌+◌, ◌-◌, ◌*◌, ◌/◌, ◌^◌, min, Bool, cond, Float}
use Rattle.std.specs.Float.{nan, inf, fin, binary32}
use Rattle.std.specs.Float.Ieee.{up, down, round, eq}

-- x rounded to binary32: to the nearest, a tie to the even one
unfoldable pub narrowed : Float → Float
narrowed nan = nan
narrowed (inf s) = inf s
narrowed (fin s m e) = round binary32 s (m * up e) (down e)

-- the f32 equals x: a zero of either sign and an infinity equal themselves, a NaN nothing
abbrev pub is_exact : Float → Bool
is_exact x = eq (narrowed x) x

-- x rounded up to a whole number, brought into the range of w bits. A NaN and what is negative give 0.
unfoldable pub ceiling : ℕ → Float → ℕ
ceiling w nan = 0
ceiling w (inf s) = cond s 0 (2 ^ w - 1)
ceiling w (fin s m e) = cond s 0 (min ((m * up e + down e - 1) / down e) (2 ^ w - 1))

-- 0.0, 1.0, 1E-8, a whole number as an f64, and a sum. Definitions only.
use Rattle.std.specs.Prelude.{ℕ, ◌^◌, false, List, pos, from_bits, Float}
use mathlib.Core.List.{foldl}
use Rattle.std.specs.Float.{fin, binary64}
use Rattle.std.specs.Float.Ieee.{round, add, of_int}

-- +0.0
abbrev pub zero64 : Float
zero64 = from_bits binary64 0

-- 1.0
abbrev pub one64 : Float
one64 = fin false 1 (pos 0)

-- the f64 nearest to 1E-8
abbrev pub tiny64 : Float
tiny64 = round binary64 false 1 (10 ^ 8)

-- the whole number n
abbrev pub number : ℕ → Float
number n = of_int binary64 (pos n)

-- a sum that starts at a and takes the terms in list order
abbrev pub sum_from : Float → List Float → Float
sum_from a xs = foldl (add binary64) a xs

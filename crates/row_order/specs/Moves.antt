-- What the order of the rows does move, on the smallest lists, so that no more can be claimed: the sign of a smallest
-- time that is zero, and the fits. Definitions only.
use Rattle.std.specs.Prelude.{◌≡◌, [], ◌∷◌, Float}
use Rattle.std.proofs.Math.Option.{some}
use Rattle.std.specs.Float.{binary32, binary64}
use Rattle.std.specs.Float.Ieee.{of_bits}
use Rattle.retention_alignment.specs.Observation.{Obs, min_rt}
use Rattle.regression.specs.Regression.{Sample, fit_of}

-- ---- the smallest time of a peptide in a file

-- the f32 0.0 and -0.0
abbrev pub plus_zero : Float
plus_zero = of_bits binary32 0

abbrev pub minus_zero : Float
minus_zero = of_bits binary32 0x8000_0000

-- a training row at this time
abbrev pub seen_at : Float → Obs
seen_at t = record { file = 0; peptide = 0; rt = t }

-- ---- a fit of order 1

-- 1.0, 2 ^ 53, its opposite, and 1 / (3 + 1E-8)
abbrev pub one : Float
one = of_bits binary64 0x3FF0_0000_0000_0000

abbrev pub large : Float
large = of_bits binary64 0x4340_0000_0000_0000

abbrev pub minus_large : Float
minus_large = of_bits binary64 0xC340_0000_0000_0000

abbrev pub third : Float
third = of_bits binary64 0x3FD5_5555_5423_E9D7

-- the sample with 1.0 as its design row and this target
abbrev pub sample_at : Float → Sample
sample_at y = record { row = one ∷ []; y = y }

pub record Moves : Type 0 where
  -- of two zeros the earlier stays, with its sign
  pub smallest : min_rt 0 0 (seen_at plus_zero ∷ seen_at minus_zero ∷ []) ≡ some plus_zero
  pub smallest_other : min_rt 0 0 (seen_at minus_zero ∷ seen_at plus_zero ∷ []) ≡ some minus_zero
  -- 1 is lost in 2 ^ 53, and not where it is added last
  pub fit : (fit_of 1 (sample_at one ∷ sample_at large ∷ sample_at minus_large ∷ [])).coefficients
      ≡ of_bits binary64 0 ∷ []
  pub fit_other : (fit_of 1 (sample_at large ∷ sample_at minus_large ∷ sample_at one ∷ [])).coefficients
      ≡ third ∷ []

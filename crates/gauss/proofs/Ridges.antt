-- The nine ridges, by computation.
use mathlib.Core.Path.{◌≡◌, refl}
use mathlib.Core.List.{[], ◌∷◌, map}
use lib.Ieee.{binary64, round, mul, le, to_bits}
use Rattle.elimination.specs.Ridge.{ridges_from, ridges}

-- the products of 1E-8 with 10.0 while at most 1.0: the 4th and 5th are not the floats nearest to 1E-5 and 1E-4
pub nine_ridges : map (to_bits binary64) ridges
    ≡ 0x3E45_798E_E230_8C3A
    ∷ 0x3E7A_D7F2_9ABC_AF48
    ∷ 0x3EB0_C6F7_A0B5_ED8D
    ∷ 0x3EE4_F8B5_88E3_68F0
    ∷ 0x3F1A_36E2_EB1C_432C
    ∷ 0x3F50_624D_D2F1_A9FC
    ∷ 0x3F84_7AE1_47AE_147B
    ∷ 0x3FB9_9999_9999_999A
    ∷ 0x3FF0_0000_0000_0000
    ∷ []
unfolding ridges_from round mul le to_bits
nine_ridges = refl

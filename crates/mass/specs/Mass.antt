-- VALID_AA of sage's mass.rs and the column of a letter, as document 01 has them.
use Rattle.std.specs.Prelude.{ℕ, suc, Bool, cond, ◌&&◌, List, [], ◌∷◌, eqb, leb, Option, slice_get}

-- the bytes of ACDEFGHIKLMNPQRSTVWYUO
unfoldable pub valid_aa : List ℕ
valid_aa =
    65 ∷ 67 ∷ 68 ∷ 69 ∷ 70 ∷ 71 ∷ 72 ∷ 73 ∷ 75 ∷ 76 ∷ 77
    ∷ 78 ∷ 80 ∷ 81 ∷ 82 ∷ 83 ∷ 84 ∷ 86 ∷ 87 ∷ 89 ∷ 85 ∷ 79 ∷ []

-- the first place, counted from i, where b stands in a list; 0 where it stands nowhere in it
unfoldable pub place_from : ℕ → ℕ → List ℕ → ℕ
place_from i b [] = 0
place_from i b (x ∷ xs) = cond (eqb b x) i (place_from (suc i) b xs)

-- the column of a letter: its place in VALID_AA, and 0 (A's) for any other byte
unfoldable pub column_of : ℕ → ℕ
column_of b = place_from 0 b valid_aa

-- a letter from A to Z
abbrev pub is_letter : ℕ → Bool
is_letter b = leb 65 b && leb b 90

-- the residue that a column stands for, where there is one
unfoldable pub residue_at : ℕ → Option ℕ
residue_at i = slice_get valid_aa i

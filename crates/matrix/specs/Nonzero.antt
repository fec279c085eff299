-- The cells of a row that are not zero: at which places they stand, and what they are. Definitions only.
use Rattle.std.specs.Prelude.{◌≡◌, cond, List, [], ◌∷◌, ℕ, suc, Float}
use Rattle.float.specs.Value.{is_zero}

-- the places of the cells that are not zero, the first cell being at place j
unfoldable pub nonzeros : ℕ → List Float → List ℕ
nonzeros j [] = []
nonzeros j (x ∷ xs) = cond (is_zero x) (nonzeros (suc j) xs) (j ∷ nonzeros (suc j) xs)

-- the cells that are not zero
unfoldable pub nonzero_cells : List Float → List Float
nonzero_cells [] = []
nonzero_cells (x ∷ xs) = cond (is_zero x) (nonzero_cells xs) (x ∷ nonzero_cells xs)

-- the places and the values of the cells that are not zero, the first cell being at place j
pub record Nonzeros (j : ℕ) (cells : List Float) (places : List ℕ) (values : List Float) : Type 0 where
  pub places_are : places ≡ nonzeros j cells
  pub values_are : values ≡ nonzero_cells cells

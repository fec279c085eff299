-- Listing the cells of a row that are not zero, one block of the row after the other. Definitions only.
use Rattle.std.specs.Prelude.{◌≡◌, cond, List, [], ◌∷◌, ◌++◌, map, ℕ, ◌+◌, ◌*◌, ◌≤◌, Float, length, take}
use Rattle.std.specs.Float.{binary64}
use Rattle.std.specs.Float.Ieee.{div}
use Rattle.float.specs.Value.{is_zero}
use Rattle.matrix.specs.Nonzero.{nonzeros, nonzero_cells}

-- A block of cells is listed behind the first n places and values, and r are listed then. The block's first cell is at
-- place `at` of the row.
pub record Appended
    (at : ℕ)
    (cells : List Float)
    (n r : ℕ)
    (places₀ places : List ℕ)
    (values₀ values : List Float)
    : Type 0 where
  pub few : r ≤ n + length cells
  pub count : r ≡ n + length (nonzeros at cells)
  pub places_are : take r places ≡ take n places₀ ++ nonzeros at cells
  pub values_are : take r values ≡ take n values₀ ++ nonzero_cells cells

-- which cells are not zero, as the binary digits of a number: the first cell's is the lowest
unfoldable pub seen_in : List Float → ℕ
seen_in [] = 0
seen_in (x ∷ xs) = cond (is_zero x) 0 1 + 2 * seen_in xs

-- cells, each divided by the same number
abbrev pub divided : Float → List Float → List Float
divided whole cells = map (λ x. div binary64 x whole) cells

-- Rows of falling width, one after the other in a flat list: row 0 has w cells, and each row one cell less than the row
-- before it. For any cells. Where each row starts, and where the cell of a row and a column lies. Definitions only.
use Rattle.std.specs.Prelude.{◌≡◌, List, [], ◌∷◌, ℕ, zero, suc, ◌+◌, ◌-◌, ◌≤◌, ◌<◌, length, get_or, take, drop}

-- the first n rows of a flat list
unfoldable pub falling_rows : {A : Type 0} → (w n : ℕ) → List A → List (List A)
falling_rows w zero cells = []
falling_rows w (suc n) cells = take w cells ∷ falling_rows (w - 1) n (drop w cells)

-- the place of row j's first cell: the lengths of the rows before it, added up
unfoldable pub falling_start : (w j : ℕ) → ℕ
falling_start w zero = 0
falling_start w (suc j) = w + falling_start (w - 1) j

-- ---- the rows that are stored of a triangle: D of them, the first of D + 1 cells, each from its own column on

-- where each of the D stored rows starts
pub record RowStarts (D : ℕ) (starts : List ℕ) : Type 0 where
  pub enough : D ≤ length starts
  pub at : (j : ℕ) → j < D → get_or starts j 0 ≡ falling_start (D + 1) j

-- the cell of column c in the stored row j, and where it lies
pub record Stored (w j c : ℕ) : Type 0 where
  pub row : suc j < w
  pub from : j ≤ c
  pub within : c < w

abbrev pub cell_at : (w j c : ℕ) → ℕ
cell_at w j c = falling_start w j + (c - j)

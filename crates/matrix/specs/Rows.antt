-- A matrix as the list of its rows, and the flat list in which its cells lie row by row. For any cells.
use Rattle.std.specs.Prelude.{◌≡◌, ℕ, zero, suc, ◌+◌, ◌*◌, ◌<◌, List, [], ◌∷◌, ◌++◌, map, take, drop, get_or, set}

-- the place of the cell in a row and a column, row-major
abbrev pub place_of : (cols row col : ℕ) → ℕ
place_of cols row col = row * cols + col

-- row i of a flat list
abbrev pub row_at : {A : Type 0} → (cols i : ℕ) → List A → List A
row_at cols i cells = take cols (drop (i * cols) cells)

-- the first n rows of a flat list
unfoldable pub rows_of : {A : Type 0} → (cols n : ℕ) → List A → List (List A)
rows_of cols zero cells = []
rows_of cols (suc n) cells = take cols cells ∷ rows_of cols n (drop cols cells)

-- the cells of the rows, one row after the other
unfoldable pub flat : {A : Type 0} → List (List A) → List A
flat [] = []
flat (row ∷ rows) = row ++ flat rows

-- the rows with row i and row j exchanged
abbrev pub swapped : {A : Type 0} → (i j : ℕ) → List (List A) → List (List A)
swapped i j rows = set (set rows i (get_or rows j [])) j (get_or rows i [])

-- a and b are where rows i and j of a matrix with l cells in rows of cols start
pub record TwoRows (cols a b l : ℕ) : Type 0 where
  pub rows : ℕ
  pub i : ℕ
  pub j : ℕ
  pub count : l ≡ rows * cols
  pub first : (i < rows) × (a ≡ i * cols)
  pub second : (j < rows) × (b ≡ j * cols)

-- a column of the rows; d where a row is too short
abbrev pub col_of : {A : Type 0} → A → ℕ → List (List A) → List A
col_of d col rows = map (λ row. get_or row col d) rows

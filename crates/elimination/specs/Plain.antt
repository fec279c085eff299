-- Cells that stay as they are where a zero is subtracted from them. Definitions only.
use Rattle.std.specs.Prelude.{List, ◌≡◌, Bool, true, false, ℕ, ◌<◌, get_or, Float}
use Rattle.float.specs.Value.{is_zero, Sum}
use Rattle.elimination.specs.Rows.{row_of}
use Rattle.elimination.specs.Elimination.{cell}

-- the first n cells of a row are values of the format, and not -0.0
abbrev pub Plain : ℕ → List Float → Type 0
Plain n row = (k : ℕ) → k < n → Sum (cell k row)

-- they are so in each of the first m rows whose flag is set
abbrev pub PlainRows : (m n : ℕ) → List Bool → List (List Float) → Type 0
PlainRows m n flags rows = (r : ℕ) → r < m → get_or flags r false ≡ true → Plain n (row_of rows r)

-- the first n cells of a row are zeros, of either sign
abbrev pub Zeros : ℕ → List Float → Type 0
Zeros n row = (k : ℕ) → k < n → is_zero (cell k row) ≡ true

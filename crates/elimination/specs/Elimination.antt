-- Gauss-Jordan elimination of a system of n equations, each row the n cells of the left side followed by those of the
-- right. Every operation is IEEE 754's on binary64, rounded once. Definitions only.
use Rattle.std.specs.Prelude.{List, [], ◌∷◌, ◌++◌, map, ◌≡◌, Bool, true, false, not, ◌&&◌, ◌||◌, ℕ, zero, suc, ◌+◌, ◌-◌, ◌^◌, length, get_or, take, drop, set, ltb, eqb, pos, Float}
use Rattle.std.specs.Float.{nan, fin, binary64}
use Rattle.std.specs.Float.Ieee.{add, sub, mul, div, lt, le, eq}
use Rattle.matrix.specs.Rows.{rows_of, flat, swapped}
use Rattle.float.specs.Number.{zero64, one64, tiny64}
use Rattle.matrix.specs.Lists.{zipped}
use Rattle.elimination.specs.Rows.{row_of, indexed}

-- the lowest finite f64
abbrev pub lowest64 : Float
lowest64 = fin true (2 ^ 53 - 1) (pos 971)

-- cell j of a row
abbrev pub cell : ℕ → List Float → Float
cell j row = get_or row j nan

-- d less s times the factor
abbrev pub less_scaled : Float → Float → Float → Float
less_scaled factor d s = sub binary64 d (mul binary64 s factor)

-- x divided by d
abbrev pub divided_by : Float → Float → Float
divided_by d x = div binary64 x d

-- ---- the ridge on the diagonal

-- eps added to cell i of row i
abbrev pub ridged : Float → ℕ → List Float → List Float
ridged eps i row = set row i (add binary64 (cell i row) eps)

abbrev pub fill_zero : Float → List (List Float) → List (List Float)
fill_zero eps rows = indexed (ridged eps) rows

-- ---- echelon form

-- The best row so far is best, with the value x; the candidates, from row i down, have the values ys. A later row is
-- taken whenever its value is at least the best: of equals the last, and no NaN.
unfoldable pub largest : ℕ → ℕ → Float → List Float → ℕ
largest i best x [] = best
largest i best x (y ∷ ys) = elim (le x y) [ true ↦ largest (suc i) i y ys | false ↦ largest (suc i) best x ys ]

-- the pivot row of column k from row h down. The search starts from row 0 with the lowest finite f64.
abbrev pub pivot_row : ℕ → ℕ → List (List Float) → ℕ
pivot_row h k rows = largest h 0 lowest64 (map (cell k) (drop h rows))

-- A row below the pivot row: column k becomes +0.0, each cell right of it is less the pivot row's times the factor,
-- and those left of it stay.
unfoldable pub cleared : ℕ → List Float → List Float → List Float
cleared k pivot row =
    take k row
    ++ zero64
    ∷ zipped (less_scaled (div binary64 (cell k row) (cell k pivot))) (drop (suc k) row) (drop (suc k) pivot)

-- column k cleared in each row below row h, by row h
unfoldable pub clear_below : ℕ → ℕ → List (List Float) → List (List Float)
clear_below h k rows = take (suc h) rows ++ map (cleared k (row_of rows h)) (drop (suc h) rows)

-- the pivot row brought to row h, and column k cleared below it
unfoldable pub column_eliminated : ℕ → ℕ → List (List Float) → List (List Float)
column_eliminated h k rows = clear_below h k (swapped h (pivot_row h k rows) rows)

-- So many columns from column k on, with h pivot rows above. A column whose chosen cell is zero is passed over.
unfoldable pub echelon_from : ℕ → ℕ → ℕ → List (List Float) → List (List Float)
echelon_from zero k h rows = rows
echelon_from (suc left) k h rows =
    elim (eq (cell k (row_of rows (pivot_row h k rows))) zero64) [
      | true ↦ echelon_from left (suc k) h rows
      | false ↦ echelon_from left (suc k) (suc h) (column_eliminated h k rows)
    ]

abbrev pub echelon : ℕ → List (List Float) → List (List Float)
echelon n rows = echelon_from n 0 0 rows

-- ---- reduced form

-- how many cells are zero before the first that is not. A NaN is not.
unfoldable pub leading_zeros : List Float → ℕ
leading_zeros [] = 0
leading_zeros (x ∷ xs) = elim (eq x zero64) [ true ↦ suc (leading_zeros xs) | false ↦ 0 ]

-- the place of a row's first nonzero left cell, n where there is none
abbrev pub leading : ℕ → List Float → ℕ
leading n row = leading_zeros (take n row)

-- A row divided by its first nonzero left cell, from there rightwards; the cells left of it stay. A row without one
-- stays.
unfoldable pub divided : ℕ → List Float → List Float
divided n row =
    let j = leading n row in
    elim (ltb j n) [ true ↦ take j row ++ map (divided_by (cell j row)) (drop j row) | false ↦ row ]

abbrev pub reduce : ℕ → List (List Float) → List (List Float)
reduce n rows = map (divided n) rows

-- A row above less the given row times the factor that clears the given row's first nonzero left cell j there, over
-- the full row.
unfoldable pub less_multiple : ℕ → List Float → List Float → List Float
less_multiple j by row = zipped (less_scaled (div binary64 (cell j row) (cell j by))) row by

-- the rows above row i cleared by row i, if it has a nonzero left cell
unfoldable pub clear_above : ℕ → ℕ → List (List Float) → List (List Float)
clear_above n i rows =
    let j = leading n (row_of rows i) in
    elim (ltb j n) [ true ↦ map (less_multiple j (row_of rows i)) (take i rows) ++ drop i rows | false ↦ rows ]

-- the rows below row i have been used; then row i - 1, and so on up
unfoldable pub backfill_from : ℕ → ℕ → List (List Float) → List (List Float)
backfill_from n zero rows = rows
backfill_from n (suc i) rows = backfill_from n i (clear_above n i rows)

-- from the last row up
abbrev pub backfill : ℕ → List (List Float) → List (List Float)
backfill n rows = backfill_from n (length rows) rows

-- ---- whether the left side is solved

-- On the diagonal 1.0 or 0.0. Elsewhere nothing above 1E-8: a NaN or a negative number passes.
abbrev pub cell_solved : Bool → Float → Bool
cell_solved true x = eq x one64 || eq x zero64
cell_solved false x = not (lt tiny64 x)

-- the cells of row i from column j on
unfoldable pub row_solved : ℕ → ℕ → List Float → Bool
row_solved i j [] = true
row_solved i j (x ∷ xs) = cell_solved (eqb i j) x && row_solved i (suc j) xs

-- the first n cells of each row, from row i on
unfoldable pub solved_from : ℕ → ℕ → List (List Float) → Bool
solved_from n i [] = true
solved_from n i (row ∷ rows) = row_solved i 0 (take n row) && solved_from n (suc i) rows

abbrev pub left_solved : ℕ → List (List Float) → Bool
left_solved n rows = solved_from n 0 rows

-- ---- one try

-- the rows after the elimination with the ridge eps
unfoldable pub eliminate : ℕ → Float → List (List Float) → List (List Float)
eliminate n eps rows = backfill n (reduce n (echelon n (fill_zero eps rows)))

-- The contract of `solve_inner`: the cells before and after a try with c right columns, and whether it solved the
-- left side.
pub record Tried (n c : ℕ) (eps : Float) (cells₀ cells₁ : List Float) (r : Bool) : Type 0 where
  pub rows : rows_of (n + c) n cells₁ ≡ eliminate n eps (rows_of (n + c) n cells₀)
  pub cells : cells₁ ≡ flat (eliminate n eps (rows_of (n + c) n cells₀))
  pub solved : r ≡ left_solved n (eliminate n eps (rows_of (n + c) n cells₀))

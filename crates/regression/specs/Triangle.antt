-- The normal equations as they are stored: each row from its diagonal on. What a sample adds to such rows, the full
-- rows that they stand for, and what is stored of full rows. Definitions only.
use Rattle.std.specs.Prelude.{ℕ, ◌+◌, ◌-◌, min, max, List, [], ◌∷◌, ◌++◌, get_or, drop, Float}
use Rattle.std.specs.Float.{nan}
use Rattle.matrix.specs.Lists.{tabulate, zipped}
use Rattle.packed_rows.specs.Added.{plus_scaled}
use Rattle.regression.specs.Regression.{Sample, cov, rhs}

-- row j of cov from the diagonal on: cov j j, .., cov j (D - 1)
abbrev pub cov_from : ℕ → List Sample → ℕ → List Float
cov_from D ss j = tabulate (D - j) (λ k. cov ss j (j + k))

-- the upper triangle of cov, by rows
unfoldable pub cov_triangle : ℕ → List Sample → List (List Float)
cov_triangle D ss = tabulate D (cov_from D ss)

-- what is stored: each of its rows, and then the right side's cell
unfoldable pub triangle : ℕ → List Sample → List (List Float)
triangle D ss = tabulate D (λ j. cov_from D ss j ++ rhs ss j ∷ [])

-- ---- one sample more

-- Each row made anew from the extended row from the diagonal on: a cell d, beside y, becomes f x d y, x being the cell
-- on the diagonal.
unfoldable pub add_triangle_by : (Float → Float → Float → Float) → List (List Float) → List Float
    → List (List Float)
add_triangle_by f [] ext = []
add_triangle_by f (row ∷ rows) [] = row ∷ rows
add_triangle_by f (row ∷ rows) (x ∷ ext) = zipped (f x) row (x ∷ ext) ∷ add_triangle_by f rows ext

-- to each row the extended row from the diagonal on, times its cell there
abbrev pub add_triangle : List (List Float) → List Float → List (List Float)
add_triangle rows ext = add_triangle_by plus_scaled rows ext

-- ---- full rows

-- The cell for row j and column k of the full rows: that of row min j k, as far from its first cell as the two are
-- apart. Column D is the right side's.
abbrev pub mirrored : List (List Float) → ℕ → ℕ → Float
mirrored rows j k = get_or (get_or rows (min j k) []) (max j k - min j k) nan

-- stored rows unfolded: D full rows of D + 1 cells
unfoldable pub unfolded : ℕ → List (List Float) → List (List Float)
unfolded D rows = tabulate D (λ j. tabulate (D + 1) (mirrored rows j))

-- full rows folded: row j without its first j cells
unfoldable pub folded : ℕ → List (List Float) → List (List Float)
folded D rows = tabulate D (λ j. drop j (get_or rows j []))

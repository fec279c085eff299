-- The workspace of a fit of order D (document 01's work room): how many cells it has, and where the normal equations
-- lie in it. No other crate knows. Definitions only.
use Rattle.std.specs.Prelude.{◌≡◌, List, ◌++◌, ℕ, ◌+◌, ◌*◌, ◌/◌, ◌≤◌, length, take, drop, replicate, Float}
use Rattle.params.specs.Slice.{Change, change, MutSlice}
use Rattle.status.specs.Limits.{max_order}
use Rattle.matrix.specs.Rows.{flat}
use Rattle.float.specs.Number.{zero64}
use Rattle.packed_rows.specs.Falling.{falling_rows}
use Rattle.regression.specs.Triangle.{unfolded, folded}

abbrev pub workspace_cells : ℕ → ℕ
workspace_cells D = D * D + D * (D + 1) / 2 + 2 * D

pub record Workspace (D : ℕ) (cells : List Float) : Type 0 where
  pub order : D ≤ max_order
  pub count : length cells ≡ workspace_cells D

-- ---- its two parts: full rows that the elimination works on, and the equations as they are stored

-- the cells of D augmented rows
abbrev pub system_length : ℕ → ℕ
system_length D = D * (D + 1)

-- the rows that are stored, each from its diagonal on
abbrev pub stored : ℕ → List Float → List (List Float)
stored D cells = falling_rows (D + 1) D (drop (system_length D) cells)

-- the equations that it holds, D rows [cov | b]
abbrev pub equations : ℕ → List Float → List (List Float)
equations D cells = unfolded D (stored D cells)

-- the workspace with these rows stored in place of its own
unfoldable pub with_stored : ℕ → (rows : List (List Float)) (cells : List Float) → List Float
with_stored D rows cells = take (system_length D) cells ++ flat rows

-- and with these equations
abbrev pub with_equations : ℕ → (rows : List (List Float)) (cells : List Float) → List Float
with_equations D rows cells = with_stored D (folded D rows) cells

-- ---- what a fit leaves in it

-- as a fit begins and as it ends: +0.0
abbrev pub cleared : List Float → List Float
cleared cells = replicate (length cells) zero64

-- +0.0 but for these equations
abbrev pub holding : ℕ → (rows : List (List Float)) → List Float
holding D rows = with_equations D rows (replicate (workspace_cells D) zero64)

-- ---- what a fit writes: the workspace, and the coefficients

pub record FitSlices : Type 0 where
  pub workspace : List Float
  pub coefficients : List Float

-- as a function's parameters hold them, in an `ensures`
abbrev pub fit_slices : (workspace beta : MutSlice Float) → Change FitSlices
fit_slices workspace beta =
    change
    (record { workspace = workspace.entry.now; coefficients = beta.entry.now })
    (record { workspace = workspace.exit.now; coefficients = beta.exit.now })

-- The column cursor, step by step: in a matrix that the list holds whole, its steps give the column's cells from the
-- top down, and then the end.
use mathlib.Core.Path.{◌≡◌, ◌∙◌}
use mathlib.Core.List.{List, []}
use Prim.Native.Nat.{ℕ, ◌+◌, ◌*◌, ◌^◌, ◌≤◌, ◌<◌, min}
use native.Mathlib.Omega.{arith}
use lib.Ieee.{Float, nan}
use lib.ListN.{length, get_or, get_or-map}
use borrow.Author.Tests.{lt-ltb, le-ltb}
use Rattle.matrix.specs.Rows.{place_of, rows_of, col_of}
use Rattle.matrix.specs.Cells.{cell_of, step_of}
use Rattle.std.specs.Prelude.{Some, None}
use Rattle.matrix.proofs.Laws.{place_below, get_d_rows_of}

-- a cell of a column
pub get_d_col_of : (cols n i c : ℕ) (l : List Float) → i < n → c < cols
    → get_or (col_of nan c (rows_of cols n l)) i nan ≡ get_or l (place_of cols i c) nan
get_d_col_of cols n i c l h m =
    get_or-map (λ (row : List Float). get_or row c nan) (rows_of cols n l) i [] ∙ get_d_rows_of cols n i c l nan h m

pub cell_value : (cols n i c : ℕ) (l : List Float) → i < n → c < cols → n * cols ≤ length l
    → n * cols ≤ 2 ^ 32 → cell_of n cols i c l ≡ Some (get_or l (place_of cols i c) nan)
cell_value cols n i c l h m r s =
    let near : place_of cols i c < min (length l) (2 ^ 32) = omega (arith, place_below cols n i c h m) in
    simp (lt-ltb i n h, lt-ltb c cols m, lt-ltb _ _ near)

pub cell_outside : (cols n i c : ℕ) (l : List Float) → n ≤ i → cell_of n cols i c l ≡ None
cell_outside cols n i c l h = simp (le-ltb i n h)

pub step_value : (cols n i c : ℕ) (l : List Float) → i < n → c < cols → n * cols ≤ length l
    → n * cols ≤ 2 ^ 32
    → step_of n cols (record { row = i; col = c }) l
    ≡ Some (get_or (col_of nan c (rows_of cols n l)) i nan, record { row = i + 1; col = c })
step_value cols n i c l h m r s = simp (cell_value cols n i c l h m r s, get_d_col_of cols n i c l h m)

pub step_done : (cols n i c : ℕ) (l : List Float) → n ≤ i
    → step_of n cols (record { row = i; col = c }) l ≡ None
step_done cols n i c l h = simp (cell_outside cols n i c l h)

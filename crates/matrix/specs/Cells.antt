-- The checked read of a cell and the step of the column cursor.
use Rattle.std.specs.Prelude.{ℕ, ◌+◌, ◌^◌, min, ◌&&◌, cond, List, ltb, Float, length, get_or, Option, Some, None}
use Rattle.std.specs.Float.{nan}
use Rattle.matrix.specs.Rows.{place_of}
use Rattle.matrix.specs.declared.Col.{Col}

-- The cell in that row and column, where the matrix has both and the list reaches that far. Places are numbers of 32
-- bits: a cell further on is outside.
abbrev pub cell_of : (rows cols row col : ℕ) → List Float → Option Float
cell_of rows cols row col cells =
    cond (ltb row rows && ltb col cols && ltb (place_of cols row col) (min (length cells) (2 ^ 32)))
    (Some (get_or cells (place_of cols row col) nan))
    None

-- what a step gives where the read found this: the cell and the cursor one row further down
abbrev pub stepped : Col → Option Float → Option (Float × Col)
stepped c (Some x) = Some (x, record { row = c.row + 1; col = c.col })
stepped c None = None

abbrev pub step_of : (rows cols : ℕ) → Col → List Float → Option (Float × Col)
step_of rows cols c cells = stepped c (cell_of rows cols c.row c.col cells)

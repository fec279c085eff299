-- What a sample adds to stored rows by its cells that are not zero: to a cell, to a column of some rows, to cells side
-- by side; and which rows have gained it. An extended row is a design row and then the target. Definitions only.
use Rattle.std.specs.Prelude.{◌≡◌, ◌||◌, cond, List, [], ◌∷◌, ℕ, zero, suc}
use Rattle.std.specs.Prelude.{◌+◌, ◌-◌, ◌*◌, ◌/◌, ◌≤◌, ◌<◌, length, get_or, set, Float}
use Rattle.std.specs.Float.{nan, binary64}
use Rattle.std.specs.Float.Ieee.{add, mul}
use Rattle.float.specs.Value.{is_zero}
use Rattle.matrix.specs.Nonzero.{Nonzeros}
use Rattle.packed_rows.specs.declared.Row.{Row}
use Rattle.packed_rows.specs.Falling.{falling_start, RowStarts, Stored, cell_at}

-- d plus c times s
abbrev pub plus_scaled : Float → Float → Float → Float
plus_scaled c d s = add binary64 d (mul binary64 c s)

-- d plus c times s where neither c nor s is zero, and else d
abbrev pub plus_nonzero : Float → Float → Float → Float
plus_nonzero c d s = cond (is_zero c || is_zero s) d (plus_scaled c d s)

-- x times v added to the cell at a place of the list
abbrev pub cell_added : (at : ℕ) (x v : Float) → List Float → List Float
cell_added at x v acc = set acc at (plus_scaled x (get_or acc at nan) v)

-- Rows, each by where its column 0 would be in the list, and its factor: to the cell of column c of each of them, one
-- after the other, v times the factor added.
abbrev pub column_added : (rows : List Row) (c : ℕ) (v : Float) → List Float → List Float
column_added [] c v acc = acc
column_added (r ∷ rows) c v acc = column_added rows c v (cell_added (r.base + c) r.factor v acc)

-- that of the column at place p
abbrev pub row_at : (places : List ℕ) (values : List Float) (starts : List ℕ) (p : ℕ) → Row
row_at places values starts p =
    record {
      base = get_or starts (get_or places p 0) 0 - get_or places p 0;
      factor = get_or values p nan;
    }

-- those of the columns at n places, from place p on
abbrev pub rows_at : (places : List ℕ) (values : List Float) (starts : List ℕ) (n p : ℕ) → List Row
rows_at places values starts zero p = []
rows_at places values starts (suc n) p = row_at places values starts p ∷ rows_at places values starts n (suc p)

-- for each of these columns, by its place and its value
abbrev pub columns_added : (rows : List Row) (places : List ℕ) (values : List Float)
    → List Float → List Float
columns_added rows [] values acc = acc
columns_added rows (c ∷ places) [] acc = acc
columns_added rows (c ∷ places) (v ∷ values) acc = columns_added rows places values (column_added rows c v acc)

-- Values side by side: x times each of them added to the cells from a place of the list on.
abbrev pub run_added : (at : ℕ) (x : Float) (values : List Float) → List Float → List Float
run_added at x [] acc = acc
run_added at x (v ∷ values) acc = run_added (suc at) x values (cell_added at x v acc)

-- to each of these rows, from column c on
abbrev pub runs_added : (rows : List Row) (c : ℕ) (values : List Float) → List Float → List Float
runs_added [] c values acc = acc
runs_added (r ∷ rows) c values acc = runs_added rows c values (run_added (r.base + c) r.factor values acc)

-- 4, 6 or 8
pub record RunLong (n : ℕ) : Type 0 where
  pub four : 4 ≤ n
  pub eight : n ≤ 8
  pub even : n / 2 * 2 ≡ n

-- the places from number h on, if there are any, lie side by side up to the last of w, and are 4, 6 or 8
pub record RunFrom (w : ℕ) (places : List ℕ) (h : ℕ) : Type 0 where
  pub within : h ≤ length places
  pub long : h < length places → RunLong (length places - h)
  pub last : h < length places → get_or places h 0 + (length places - h) ≡ w

-- an extended row by its cells that are not zero, and stored rows for it with where each of them starts
pub record Addable (ext acc : List Float) (places : List ℕ) (values : List Float) (starts : List ℕ) : Type 0 where
  pub listed : Nonzeros 0 ext places values
  pub whole : length acc ≡ falling_start (length ext) (length ext - 1)
  pub firsts : RowStarts (length ext - 1) starts

-- the stored rows from J on and below K with the products of an extended row, and the others as they were
pub record Gained (ext : List Float) (J K : ℕ) (before after : List Float) : Type 0 where
  pub long : length after ≡ length before
  pub above : (j c : ℕ) → Stored (length ext) j c → j < J
      → get_or after (cell_at (length ext) j c) nan ≡ get_or before (cell_at (length ext) j c) nan
  pub gained : (j c : ℕ) → Stored (length ext) j c → J ≤ j → j < K
      → get_or after (cell_at (length ext) j c) nan
      ≡ plus_nonzero (get_or ext j nan) (get_or before (cell_at (length ext) j c) nan) (get_or ext c nan)
  pub below : (j c : ℕ) → Stored (length ext) j c → K ≤ j
      → get_or after (cell_at (length ext) j c) nan ≡ get_or before (cell_at (length ext) j c) nan

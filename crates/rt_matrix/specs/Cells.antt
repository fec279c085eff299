-- How cells and columns hold what `Line` speaks of: for the contracts of the functions inside. Definitions, and
-- what two of them count.
use Rattle.std.specs.Prelude.{ℕ, ◌+◌, ◌*◌, ◌^◌, ◌<◌, ◌≤◌, ◌≡◌, cond, length, Float}
use native.Mathlib.Nat.{le_refl}
use lib.Dec.{lit≤}
use mathlib.Core.List.{List, map, zip, zip_with}
use Rattle.std.proofs.Math.Option.{Option, none, some}
use Rattle.std.specs.Float.{binary64}
use Rattle.std.specs.Float.Ieee.{add, mul, div, eq, of_bits}
use Rattle.params.specs.Slice.{Held, Change, Slice}
use Rattle.float.specs.Value.{is_normal}
use Rattle.matrix.specs.Rows.{rows_of}
use Rattle.float.specs.Number.{number}
use Rattle.status.specs.Limits.{max_files}
use Rattle.matrix.specs.Lists.{zipped}
use Rattle.rt_matrix.specs.Line.{share, mean, squared, line_of, lines}
use Rattle.rt_matrix.specs.Columns.{FileColumns, EachFrom, columns_of, written_over}
use Rattle.rt_matrix.specs.declared.squares.Squares.{Squares}
use Rattle.rt_matrix.specs.declared.sums.Sums.{Sums}
use Rattle.rt_matrix.specs.declared.Alignment.{Alignment}

-- 1E300, which no f32 equals: the cell of a peptide that has no time in a file
abbrev pub absent : Float
absent = of_bits binary64 0x7e37_e43c_8800_759c

-- what a cell holds
unfoldable pub decode : Float → Option Float
decode t = cond (eq t absent) none (some t)

-- a row of cells as shares of the files' longest times
abbrev pub shares_of : List ℕ → List Float → List (Option Float)
shares_of ms row = zip_with share ms (map decode row)

-- the rows of a matrix of cells as shares of the files' longest times
abbrev pub row_shares : List ℕ → ℕ → List Float → List (List (Option Float))
row_shares ms n cells = map (shares_of ms) (rows_of (length ms) n cells)

-- the record of each file, from the files' longest times and the matrix of cells
abbrev pub lines_from : List ℕ → ℕ → List Float → List Alignment
lines_from ms n cells = lines ms (map (map decode) (rows_of (length ms) n cells))

-- a file's state after a cell of a row with the mean y: where it holds a time x, one step by x and y
unfoldable pub at_cell : {A : Type 0} → (A → Float → Float → A) → Float → A → Option Float → A
at_cell step y a none = a
at_cell step y a (some x) = step a x y

-- the files' states after a peptide's row
unfoldable pub after_row : {A : Type 0} → (A → Float → Float → A) → List A → List (Option Float) → List A
after_row step states row = cond (is_normal binary64 (mean row)) (zipped (at_cell step (mean row)) states row) states

-- one point more in a file's sums
unfoldable pub add_point : Sums → Float → Float → Sums
add_point s x y =
    record {
      len = s.len + 1;
      dot = add binary64 s.dot (mul binary64 x y);
      sum_x = add binary64 s.sum_x x;
      sum_y = add binary64 s.sum_y y;
    }

-- one point more in a file's squares, which go by no peptide's mean
unfoldable pub add_square : Squares → Float → Float → Squares
add_square s x y = record { x_mean = s.x_mean; sx2 = add binary64 s.sx2 (squared s.x_mean x) }

-- neither counts more than the point
pub add_point_counts : (s : Sums) → (x y : Float) → (add_point s x y).len ≤ s.len + 1
unfolding add_point
add_point_counts s x y = le_refl (s.len + 1)

pub add_square_counts : (s : Squares) → (x y : Float) → 0 ≤ 0 + 1
add_square_counts s x y = lit≤ tt

-- the mean of a file's times from its sums, in front of squares
abbrev pub with_mean : Squares → Sums → Squares
with_mean q s = record { x_mean = div binary64 s.sum_x (number s.len); sx2 = q.sx2 }

-- of each file
abbrev pub with_means : List Squares → List Sums → List Squares
with_means qs ss = zipped with_mean qs ss

-- the record of each file, from its longest time, its sums and its squares
abbrev pub records_from : List ℕ → List Sums → List Squares → List Alignment
records_from ms ss qs =
    zip_with
    (λ (p : ℕ × Sums) (q : Squares). line_of p.0 p.1.len p.1.dot p.1.sum_x p.1.sum_y q.sx2)
    (zip ms ss)
    qs

-- ---- as a function's parameters hold them

-- what the writers of the records ask, in a `requires`: a cell for each peptide in each file, within the limits, and in
-- each column of the records a cell for each file at least
abbrev pub ShapedAt : (cells : Held Float) (max : Held ℕ) (peptides : ℕ) → FileColumns → Type 0
ShapedAt cells max peptides columns =
    (length cells.now ≡ peptides * length max.now)
    × (peptides < 2 ^ 32)
    × (length max.now ≤ max_files)
    × EachFrom (length max.now) columns

-- what they promise, in an `ensures`: the columns are left with the records, and what is longer keeps its rest
abbrev pub LinesIn : (cells : Slice Float) (max : Slice ℕ) (peptides : ℕ) → Change FileColumns → Type 0
LinesIn cells max peptides columns =
    columns.exit ≡ written_over (columns_of (lines_from max.entry.now peptides cells.entry.now)) columns.entry

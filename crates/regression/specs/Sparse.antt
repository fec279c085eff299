-- A sample added with its zeros skipped: which of its cells are not zero, what is added of it, and how many pairs of
-- columns are visited. An extended row is a design row and then the target. Definitions only.
use Rattle.std.specs.Prelude.{◌≡◌, Bool, cond, List, ℕ, ◌+◌, ◌-◌, ◌*◌, ◌/◌, ◌≤◌, ◌<◌, length, get_or, take, drop, Float}
use Rattle.std.specs.Float.{nan}
use Rattle.float.specs.Value.{is_finite}
use Rattle.status.specs.Checks.{every}
use Rattle.matrix.specs.Nonzero.{nonzeros, Nonzeros}
use Rattle.packed_rows.specs.Added.{plus_nonzero}
use Rattle.regression.specs.Triangle.{add_triangle_by, add_triangle}

-- no cell is a NaN or an infinity
abbrev pub all_finite : List Float → Bool
all_finite cells = every is_finite cells

-- a row of n cells by its first cells and those of the others that are not zero
pub record SplitRow (n : ℕ) (head : List Float) (places : List ℕ) (values row : List Float) : Type 0 where
  pub wide : length row ≡ n
  pub short : length head ≤ n
  pub first : take (length head) row ≡ head
  pub rest : Nonzeros (length head) (drop (length head) row) places values

-- an extended row of w cells, the last of them the target, by its cells that are not zero
pub record ListedRow (w : ℕ) (target : Float) (places : List ℕ) (values ext : List Float) : Type 0 where
  pub wide : length ext ≡ w
  pub some : 0 < w
  pub listed : Nonzeros 0 ext places values
  pub last : get_or ext (w - 1) nan ≡ target

-- ---- what is added

-- To the stored rows: of an extended row whose cells are all finite the products of two cells that are not zero, and of
-- another all products.
unfoldable pub add_visited : List (List Float) → List Float → List (List Float)
add_visited rows ext = cond (all_finite ext) (add_triangle_by plus_nonzero rows ext) (add_triangle rows ext)

-- ---- how many pairs of columns are visited

-- how many pairs j ≤ k of n columns there are
abbrev pub pairs : ℕ → ℕ
pairs n = n * (n + 1) / 2

-- the columns of an extended row that are not zero
abbrev pub nonzero_columns : List Float → List ℕ
nonzero_columns ext = nonzeros 0 (take (length ext - 1) ext)

-- the pairs of its nonzero columns where all its cells are finite, and else all pairs of columns
unfoldable pub visited : List Float → ℕ
visited ext = cond (all_finite ext) (pairs (length (nonzero_columns ext))) (pairs (length ext - 1))

-- The line of each file through the peptides' times there and their means. Definitions only.
use Rattle.std.specs.Prelude.{ℕ, cond, length, get_or, Float}
use mathlib.Core.List.{List, [], ◌∷◌, ◌++◌, map, zip_with}
use Rattle.std.proofs.Math.Option.{Option, none, some}
use Rattle.std.specs.Float.{binary64}
use Rattle.std.specs.Float.Ieee.{sub, mul, div}
use Rattle.float.specs.Convert.{narrowed, is_exact}
use Rattle.float.specs.Value.{is_finite, is_normal}
use Rattle.float.specs.Number.{zero64, one64, tiny64, number, sum_from}
use Rattle.matrix.specs.Lists.{tabulate}
use Rattle.rt_matrix.specs.declared.Alignment.{Alignment}

-- what the sums of squares start from: 1E-8
abbrev pub sx2_start : Float
sx2_start = tiny64

-- ---- a peptide's row

-- a time divided by its file's longest time m
unfoldable pub share : ℕ → Option Float → Option Float
share m none = none
share m (some t) = some (div binary64 t (number m))

-- the cells that hold something, in order
unfoldable pub present : {A : Type 0} → List (Option A) → List A
present [] = []
present (none ∷ cs) = present cs
present (some x ∷ cs) = x ∷ present cs

-- a peptide's mean over the files in which it has a time. One without a time has 0.0 / 0.0, a NaN.
unfoldable pub mean : List (Option Float) → Float
mean row = div binary64 (sum_from zero64 (present row)) (number (length (present row)))

-- the rows whose mean is a normal number. The others are dropped everywhere.
unfoldable pub kept_rows : List (List (Option Float)) → List (List (Option Float))
kept_rows [] = []
kept_rows (row ∷ rows) = cond (is_normal binary64 (mean row)) (row ∷ kept_rows rows) (kept_rows rows)

-- ---- a file's line

-- a peptide's time in a file, and its mean
pub record Point : Type 0 where
  pub x : Float
  pub y : Float

-- the point of a peptide with the mean y, where it has a time
unfoldable pub point_of : Option Float → Float → List Point
point_of none y = []
point_of (some x) y = record { x = x; y = y } ∷ []

-- the points of the file f, in the order of the peptides
unfoldable pub points : ℕ → List (List (Option Float)) → List Point
points f [] = []
points f (row ∷ rows) = point_of (get_or row f none) (mean row) ++ points f rows

-- the sums over points
abbrev pub sum_x : List Point → Float
sum_x ps = sum_from zero64 (map (λ p. p.x) ps)

abbrev pub sum_y : List Point → Float
sum_y ps = sum_from zero64 (map (λ p. p.y) ps)

abbrev pub dot : List Point → Float
dot ps = sum_from zero64 (map (λ p. mul binary64 p.x p.y) ps)

-- the square of x less m, as one product
abbrev pub squared : Float → Float → Float
squared m x = mul binary64 (sub binary64 x m) (sub binary64 x m)

-- the squares of the distances from the mean m
abbrev pub sx2 : Float → List Point → Float
sx2 m ps = sum_from sx2_start (map (λ p. squared m p.x) ps)

-- x, or d where x is not finite
unfoldable pub finite_or : Float → Float → Float
finite_or d x = cond (is_finite x) x d

-- The record of a file with the longest time m, from the sums over its n points, one for each kept peptide that has a
-- time there. The intercept goes by the slope as it was worked out; the flags by the numbers that are narrowed.
unfoldable pub line_of : ℕ → ℕ → Float → Float → Float → Float → Alignment
line_of m n dot sum_x sum_y sx2 =
    let x_mean = div binary64 sum_x (number n) in
    let y_mean = div binary64 sum_y (number n) in
    let slope = div binary64 (sub binary64 dot (mul binary64 (mul binary64 (number n) x_mean) y_mean)) sx2 in
    let intercept = sub binary64 y_mean (mul binary64 slope x_mean) in
    record {
      max_rt = narrowed (number m);
      slope = narrowed (finite_or one64 slope);
      intercept = narrowed (finite_or zero64 intercept);
      used = n;
      max_rt_exact = is_exact (number m);
      slope_exact = is_exact (finite_or one64 slope);
      intercept_exact = is_exact (finite_or zero64 intercept);
    }

-- the record of a file with the longest time m, from its points
unfoldable pub line : ℕ → List Point → Alignment
line m ps = line_of m (length ps) (dot ps) (sum_x ps) (sum_y ps) (sx2 (div binary64 (sum_x ps) (number (length ps))) ps)

-- the record of each file, from the files' longest times and, for each peptide, its smallest times
unfoldable pub lines : List ℕ → List (List (Option Float)) → List Alignment
lines ms rows = tabulate (length ms) (λ f. line (get_or ms f 0) (points f (kept_rows (map (zip_with share ms) rows))))

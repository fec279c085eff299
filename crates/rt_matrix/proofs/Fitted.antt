-- The records that the sums and the squares give are the definition's.
use mathlib.Core.Path.{◌≡◌, refl, sym, ap, ap₂, ◌∙◌}
use mathlib.Core.List.{List, [], ◌∷◌, map, foldl, zip, zip_with}
use mathlib.Core.Option.{Option}
use Prim.Native.Nat.{ℕ, ◌+◌, ◌*◌, ◌<◌}
use native.Mathlib.Omega.{arith}
use lib.ListN.{length, get_or, replicate, length-replicate}
use lib.Seq.{ext_get_or}
use lib.Ieee.{Float, binary64, mul, div}
use Rattle.matrix.specs.Rows.{rows_of}
use Rattle.matrix.proofs.Laws.{Wide, wide_map, wide_rows_of}
use Rattle.matrix.specs.Lists.{tabulate}
use Rattle.float.specs.Number.{zero64, number, sum_from}
use Rattle.rt_matrix.specs.Line.{
  Point,
  share,
  kept_rows,
  points,
  sx2_start,
  dot,
  sum_x,
  sum_y,
  squared,
  sx2,
  line_of,
  line,
  lines,
}
use Rattle.rt_matrix.specs.Cells.{
  decode,
  shares_of,
  row_shares,
  lines_from,
  after_row,
  add_point,
  add_square,
  with_mean,
  with_means,
  records_from,
}
use Rattle.rt_matrix.specs.declared.Alignment.{Alignment}
use Rattle.rt_matrix.specs.declared.squares.Squares.{Squares}
use Rattle.rt_matrix.specs.declared.sums.Sums.{Sums}
use Rattle.matrix.proofs.Lists.{
  length_zipped,
  get_d_zipped,
  length_zip_with,
  get_d_zip_with,
  length_zip,
  get_d_zip,
  get_d_same,
  length_tabulate,
  get_d_tabulate,
}
use Rattle.rt_matrix.proofs.Row.{length_shares}
use Rattle.rt_matrix.proofs.Columns.{over_points, by_columns, length_over}
use Rattle.rt_matrix.proofs.RecordColumns.{no_record}

-- ---- what the points of one file add up to

-- the sums before the first row
abbrev pub no_points : Sums
no_points = record { len = 0; dot = zero64; sum_x = zero64; sum_y = zero64 }

abbrev sums_from : Sums → List Point → Sums
sums_from s ps =
    record {
      len = s.len + length ps;
      dot = sum_from s.dot (map (λ p. mul binary64 p.x p.y) ps);
      sum_x = sum_from s.sum_x (map (λ p. p.x) ps);
      sum_y = sum_from s.sum_y (map (λ p. p.y) ps);
    }

counted : (n : ℕ) (ds xs ys : Float) {m : ℕ} → n ≡ m
    → ◌≡◌ {A = Sums} (record { len = n; dot = ds; sum_x = xs; sum_y = ys })
    (record { len = m; dot = ds; sum_x = xs; sum_y = ys })
counted n ds xs ys e = ap {B = Sums} (λ (k : ℕ). record { len = k; dot = ds; sum_x = xs; sum_y = ys }) e

pub points_sums : (s : Sums) (ps : List Point) → over_points add_point no_points s ps ≡ sums_from s ps
unfolding add_point
points_sums s [] = counted s.len s.dot s.sum_x s.sum_y (omega arith)
points_sums s (p ∷ ps) = points_sums (add_point s p.x p.y) ps ∙ counted _ _ _ _ (omega arith)

-- a file's mean and squares before the first row
abbrev pub no_squares : Squares
no_squares = record { x_mean = zero64; sx2 = sx2_start }

abbrev squares_from : Float → Float → Squares
squares_from m q = record { x_mean = m; sx2 = q }

pub points_squares : (s : Squares) (ps : List Point)
    → over_points add_square no_squares s ps
    ≡ squares_from s.x_mean (sum_from s.sx2 (map (λ p. squared s.x_mean p.x) ps))
unfolding add_square
points_squares s [] = refl
points_squares s (p ∷ ps) = points_squares (add_square s p.x p.y) ps

-- ---- the records from the files' sums

abbrev fitted_by : ℕ × Sums → Squares → Alignment
fitted_by p q = line_of p.0 p.1.len p.1.dot p.1.sum_x p.1.sum_y q.sx2

module _ (ms : List ℕ) (ss : List Sums) (qs : List Squares) (hs : length ss ≡ length ms)
    (hq : length qs ≡ length ms) where
  zipped_long : length (zip ms ss) ≡ length ms
  zipped_long = length_zip ms ss (omega arith)

  pub length_from : length (records_from ms ss qs) ≡ length ms
  length_from = length_zip_with fitted_by (zip ms ss) qs (omega (arith, zipped_long)) ∙ zipped_long

  pub from_at : (f : ℕ) (s : Sums) (q : Squares) → f < length ms
      → get_or (records_from ms ss qs) f no_record ≡ fitted_by (get_or ms f 0, get_or ss f s) (get_or qs f q)
  from_at f s q h =
      get_d_zip_with fitted_by (zip ms ss) qs f (0, s) q no_record (omega (arith, zipped_long)) (omega arith)
      ∙ ap (λ (p : ℕ × Sums). fitted_by p (get_or qs f q)) (get_d_zip ms ss f 0 s h (omega arith))

shares_map : (ms : List ℕ) (rows : List (List Float))
    → map (shares_of ms) rows ≡ map (zip_with share ms) (map (map decode) rows)
shares_map ms [] = refl
shares_map ms (row ∷ rows) = ap (λ (l : List (List (Option Float))). shares_of ms row ∷ l) (shares_map ms rows)

module _ (ms : List ℕ) (n : ℕ) (cells : List Float) (e : length cells ≡ n * length ms) where
  wide : Wide (length ms) (row_shares ms n cells)
  wide =
      wide_map (length ms) (length ms) (shares_of ms) (length_shares ms) (rows_of (length ms) n cells)
      (wide_rows_of (length ms) n cells (omega arith))

  -- the points of the file f
  abbrev at : ℕ → List Point
  at f = points f (kept_rows (row_shares ms n cells))

  module _ (sums : List Sums)
      (is : sums ≡ foldl (after_row add_point) (replicate (length ms) no_points) (row_shares ms n cells)) where
    sums_are : (f : ℕ) → f < length ms
        → get_or sums f no_points
        ≡ record { len = length (at f); dot = dot (at f); sum_x = sum_x (at f); sum_y = sum_y (at f) }
    sums_are f h =
        ap (λ (l : List Sums). get_or l f no_points) is
        ∙ by_columns add_point no_points (length ms) f h (replicate (length ms) no_points) (row_shares ms n cells)
        (length-replicate (length ms) no_points) wide
        ∙ ap (λ (s : Sums). over_points add_point no_points s (at f)) (get_d_same (length ms) f no_points)
        ∙ points_sums no_points (at f)
        ∙ counted _ _ _ _ (omega arith)

    pub length_are : length sums ≡ length ms
    length_are =
        ap length is
        ∙ length_over add_point no_points (replicate (length ms) no_points) (row_shares ms n cells)
        ∙ length-replicate (length ms) no_points

    module _ (first qs : List Squares) (fi : first ≡ with_means (replicate (length ms) no_squares) sums)
        (qi : qs ≡ foldl (after_row add_square) first (row_shares ms n cells)) where
      first_long : length first ≡ length ms
      first_long =
          ap length fi
          ∙ length_zipped with_mean (replicate (length ms) no_squares) sums
          ∙ length-replicate (length ms) no_squares

      first_at : (f : ℕ) → f < length ms → get_or first f no_squares ≡ with_mean no_squares (get_or sums f no_points)
      first_at f h =
          ap (λ (l : List Squares). get_or l f no_squares) fi
          ∙ get_d_zipped with_mean (replicate (length ms) no_squares) sums f no_squares no_points
          (omega (arith, length-replicate (length ms) no_squares)) (omega (arith, length_are))
          ∙ ap (λ (q : Squares). with_mean q (get_or sums f no_points)) (get_d_same (length ms) f no_squares)

      squares_are : (f : ℕ) → f < length ms
          → (get_or qs f no_squares).sx2
          ≡ sx2 (div binary64 (get_or sums f no_points).sum_x (number (get_or sums f no_points).len)) (at f)
      squares_are f h =
          ap (λ (s : Squares). s.sx2)
          (ap (λ (l : List Squares). get_or l f no_squares) qi
          ∙ by_columns add_square no_squares (length ms) f h first (row_shares ms n cells) first_long wide
          ∙ ap (λ (s : Squares). over_points add_square no_squares s (at f)) (first_at f h)
          ∙ points_squares (with_mean no_squares (get_or sums f no_points)) (at f))

      squares_long : length qs ≡ length ms
      squares_long = ap length qi ∙ length_over add_square no_squares first (row_shares ms n cells) ∙ first_long

      line_is : (f : ℕ) → f < length ms → get_or (records_from ms sums qs) f no_record ≡ line (get_or ms f 0) (at f)
      unfolding line
      line_is f h =
          from_at ms sums qs length_are squares_long f no_points no_squares h
          ∙ ap₂
          (λ (s : Sums) (q : Float). line_of (get_or ms f 0) s.len s.dot s.sum_x s.sum_y q)
          (sums_are f h)
          (squares_are f h ∙ ap (λ (s : Sums). sx2 (div binary64 s.sum_x (number s.len)) (at f)) (sums_are f h))

      pub fitted : records_from ms sums qs ≡ lines_from ms n cells
      unfolding lines
      fitted =
          ext_get_or no_record (records_from ms sums qs) (tabulate (length ms) (λ f. line (get_or ms f 0) (at f)))
          (length_from ms sums qs length_are squares_long ∙ sym (length_tabulate (length ms) (λ f. line (get_or ms f 0) (at f))))
          (λ f h. let l : f < length ms = omega (arith, length_from ms sums qs length_are squares_long) in line_is f l ∙ sym (get_d_tabulate (length ms) (λ f. line (get_or ms f 0) (at f)) f no_record l))
          ∙ ap
          (λ (rows : List (List (Option Float))). tabulate (length ms) (λ f. line (get_or ms f 0) (points f (kept_rows rows))))
          (shares_map ms (rows_of (length ms) n cells))

-- How many peptides carry a file's line: no more than there are, and where none does the line is the one that leaves
-- shares as they are.
use mathlib.Core.Path.{◌≡◌, refl, ap}
use mathlib.Core.Bool.{Bool, true, false, cond}
use mathlib.Core.List.{List, [], ◌∷◌, map, zip_with}
use mathlib.Core.Option.{Option, none, some}
use Prim.Native.Nat.{ℕ, suc, ◌≤◌, ◌<◌}
use native.Mathlib.Decide.{dec_lt}
use native.Mathlib.Omega.{arith}
use lib.ListN.{length, get_or, length-append, length-map, get_or-eq_default}
use lib.Ieee.{Float, binary32, binary64, sub, mul, div, eq, of_int, of_bits, round}
use Rattle.float.specs.Convert.{narrowed, is_exact}
use Rattle.float.specs.Number.{number}
use Rattle.float.specs.Value.{is_finite, is_normal}
use Rattle.matrix.specs.Lists.{tabulate}
use Rattle.matrix.proofs.Lists.{length_tabulate, get_d_tabulate}
use Rattle.rt_matrix.specs.Line.{Point, share, mean, kept_rows, point_of, points, finite_or, line_of, line, lines}
use Rattle.rt_matrix.specs.declared.Alignment.{Alignment}
use Rattle.rt_matrix.proofs.RecordColumns.{no_record}

kept_few : (rows : List (List (Option Float))) → length (kept_rows rows) ≤ length rows
unfolding kept_rows
kept_few [] = omega arith
kept_few (row ∷ rows) = go (is_normal binary64 (mean row)) (kept_few rows)
  where
    go : (b : Bool) → length (kept_rows rows) ≤ length rows
        → length (cond b (row ∷ kept_rows rows) (kept_rows rows)) ≤ suc (length rows)
    go true h = omega arith
    go false h = omega arith

point_few : (x : Option Float) (y : Float) → length (point_of x y) ≤ 1
unfolding point_of
point_few none y = omega arith
point_few (some x) y = omega arith

points_few : (f : ℕ) (rows : List (List (Option Float))) → length (points f rows) ≤ length rows
unfolding points
points_few f [] = omega arith
points_few f (row ∷ rows) =
    omega (
      arith,
      length-append (point_of (get_or row f none) (mean row)) (points f rows),
      point_few (get_or row f none) (mean row),
      points_few f rows,
    )

-- of each file, from the smallest times of each peptide
pub used_few : (ms : List ℕ) (rows : List (List (Option Float))) (f : ℕ)
    → (get_or (lines ms rows) f no_record).used ≤ length rows
unfolding lines line line_of
used_few ms rows f = go (dec_lt f (length ms))
  where
    shares : List (List (Option Float))
    shares = map (zip_with share ms) rows

    at : ℕ → Alignment
    at g = line (get_or ms g 0) (points g (kept_rows shares))

    go : Dec (f < length ms) → (get_or (tabulate (length ms) at) f no_record).used ≤ length rows
    go (yes h) =
        omega (
          arith,
          ap (λ (a : Alignment). a.used) (get_d_tabulate (length ms) at f no_record h),
          points_few f (kept_rows shares),
          kept_few shares,
          length-map rows (zip_with share ms),
        )
    go (no h) =
        let past : length (tabulate (length ms) at) ≤ f = omega (arith, length_tabulate (length ms) at) in
        omega (
          arith,
          ap (λ (a : Alignment). a.used) (get_or-eq_default (tabulate (length ms) at) no_record {n = f} past),
        )

-- a file that no peptide carries: slope 1, intercept 0, which an f32 holds
abbrev pub uncarried : ℕ → Alignment
uncarried m =
    record {
      max_rt = narrowed (number m);
      slope = of_bits binary32 0x3f80_0000;
      intercept = of_bits binary32 0;
      used = 0;
      max_rt_exact = is_exact (number m);
      slope_exact = true;
      intercept_exact = true;
    }

pub unused_line : (m : ℕ) (ps : List Point) → (line m ps).used ≡ 0 → line m ps ≡ uncarried m
unfolding line line_of finite_or is_finite narrowed sub mul div eq of_int of_bits round
unused_line m [] h = refl
unused_line m (p ∷ ps) h = absurd (omega (arith, h))

-- States that are carried on row by row, one for each file, are what each file's own column of points gives: for any
-- states and any step.
use mathlib.Core.Path.{◌≡◌, refl, ap, ◌∙◌}
use mathlib.Core.Bool.{Bool, true, false, cond}
use mathlib.Core.List.{List, [], ◌∷◌, ◌++◌, foldl}
use mathlib.Core.Option.{Option, none, some}
use Prim.Native.Nat.{ℕ, ◌<◌}
use native.Mathlib.Omega.{arith}
use lib.ListN.{length, get_or}
use lib.Ieee.{Float, binary64}
use Rattle.float.specs.Value.{is_normal}
use Rattle.matrix.proofs.Laws.{Wide}
use Rattle.rt_matrix.specs.Line.{Point, mean, kept_rows, point_of, points}
use Rattle.matrix.specs.Lists.{zipped}
use Rattle.rt_matrix.specs.Cells.{at_cell, after_row}
use Rattle.matrix.proofs.Lists.{length_zipped, get_d_zipped}

module _ {A : Type 0} (step : A → Float → Float → A) (d : A) where
  -- a file's points, one after the other
  abbrev pub over_points : A → List Point → A
  over_points a ps = foldl (λ a p. step a p.x p.y) a ps

  pub length_after : (states : List A) (row : List (Option Float))
      → length (after_row step states row) ≡ length states
  unfolding after_row
  length_after states row = go (is_normal binary64 (mean row))
    where
      go : (b : Bool) → length (cond b (zipped (at_cell step (mean row)) states row) states) ≡ length states
      go true = length_zipped (at_cell step (mean row)) states row
      go false = refl

  pub length_over : (states : List A) (rows : List (List (Option Float)))
      → length (foldl (after_row step) states rows) ≡ length states
  length_over states [] = refl
  length_over states (row ∷ rows) = length_over (after_row step states row) rows ∙ length_after states row

  -- a cell and its point
  one_cell : (c : Option Float) (y : Float) (a : A) (ps : List Point)
      → over_points (at_cell step y a c) ps ≡ over_points a (point_of c y ++ ps)
  unfolding at_cell point_of
  one_cell none y a ps = refl
  one_cell (some x) y a ps = refl

  -- a row and its point
  one_row : (states : List A) (row : List (Option Float)) (rows : List (List (Option Float))) (f : ℕ)
      → f < length states → f < length row
      → over_points (get_or (after_row step states row) f d) (points f (kept_rows rows))
      ≡ over_points (get_or states f d) (points f (kept_rows (row ∷ rows)))
  unfolding after_row kept_rows points
  one_row states row rows f h l = go (is_normal binary64 (mean row))
    where
      go : (b : Bool)
          → over_points (get_or (cond b (zipped (at_cell step (mean row)) states row) states) f d) (points f (kept_rows rows))
          ≡ over_points (get_or states f d) (points f (cond b (row ∷ kept_rows rows) (kept_rows rows)))
      go true =
          ap (λ (a : A). over_points a (points f (kept_rows rows)))
          (get_d_zipped (at_cell step (mean row)) states row f d none h l)
          ∙ one_cell (get_or row f none) (mean row) (get_or states f d) (points f (kept_rows rows))
      go false = refl

  pub by_columns : (n f : ℕ) → f < n → (states : List A) (rows : List (List (Option Float)))
      → length states ≡ n → Wide n rows
      → get_or (foldl (after_row step) states rows) f d ≡ over_points (get_or states f d) (points f (kept_rows rows))
  unfolding kept_rows points
  by_columns n f h states [] e w = refl
  by_columns n f h states (row ∷ rows) e w =
      by_columns n f h (after_row step states row) rows (length_after states row ∙ e) w.1
      ∙ one_row states row rows f (omega arith) (omega (arith, w.0))

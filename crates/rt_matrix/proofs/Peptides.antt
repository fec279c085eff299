-- The files' states after a peptide's row, and the rows of all peptides one after the other.
use mathlib.Core.Path.{◌≡◌, refl, sym, ap, ◌∙◌}
use mathlib.Core.Bool.{Bool, true, false, cond}
use mathlib.Core.List.{List, [], ◌∷◌}
use mathlib.Core.Option.{Option, none, some}
use Prim.Native.Nat.{ℕ, zero, suc, ◌+◌, ◌≤◌, ◌<◌}
use native.Mathlib.Nat.{not-suc-le-zero}
use native.Mathlib.Omega.{arith}
use lib.ListN.{length, get_or, take, drop}
use lib.Ieee.{Float, binary64}
use Rattle.std.specs.List.{All}
use Rattle.float.specs.Value.{is_normal}
use Rattle.matrix.specs.Rows.{rows_of}
use Rattle.rt_matrix.specs.Line.{mean}
use Rattle.matrix.specs.Lists.{zipped}
use Rattle.rt_matrix.specs.Cells.{shares_of, row_shares, at_cell, after_row}

module _ {A : Type 0} (step : A → Float → Float → A) (states : List A) (row : List (Option Float)) (y : Float)
    (e : y ≡ mean row) where
  -- a kept peptide, and one that is dropped
  pub after_kept : is_normal binary64 y ≡ true → zipped (at_cell step y) states row ≡ after_row step states row
  unfolding after_row
  after_kept h =
      ap (λ (m : Float). zipped (at_cell step m) states row) e
      ∙ sym
      (ap (λ (b : Bool). cond b (zipped (at_cell step (mean row)) states row) states) (ap (is_normal binary64) (sym e) ∙ h))

  pub after_dropped : is_normal binary64 y ≡ false → states ≡ after_row step states row
  unfolding after_row
  after_dropped h =
      sym
      (ap (λ (b : Bool). cond b (zipped (at_cell step (mean row)) states row) states) (ap (is_normal binary64) (sym e) ∙ h))

-- ---- the rows that are left

module _ (ms : List ℕ) where
  -- of the cells of the peptides that are left, the first row and the others
  pub rows_left : (left : List Float) (n k : ℕ) → n ≡ suc k
      → row_shares ms n left
      ≡ shares_of ms (take (length ms) left) ∷ row_shares ms k (drop (length ms) left)
  unfolding rows_of
  rows_left left n k e = rw e refl

  -- none are left
  pub rows_done : (left : List Float) (n : ℕ) → n ≡ 0 → row_shares ms n left ≡ []
  unfolding rows_of
  rows_done left n e = rw e refl

-- ---- what a row counts, place by place

module _ {A : Type 0} (step : A → Float → Float → A) (count : A → ℕ)
    (counted : (s : A) → (x y : Float) → count (step s x y) ≤ count s + 1) where
  row_counts : (y : Float) (states : List A) (row : List (Option Float)) (k : ℕ) (d : A)
      → count (get_or (zipped (at_cell step y) states row) k d) ≤ count (get_or states k d) + 1
  unfolding zipped at_cell
  row_counts y [] row k d = omega arith
  row_counts y (s ∷ states) [] k d = omega arith
  row_counts y (s ∷ states) (none ∷ row) zero d = omega arith
  row_counts y (s ∷ states) (some x ∷ row) zero d = counted s x y
  row_counts y (s ∷ states) (none ∷ row) (suc k) d = row_counts y states row k d
  row_counts y (s ∷ states) (some x ∷ row) (suc k) d = row_counts y states row k d

  -- a row more counts at most one point more in each file
  pub one_more : (states : List A) (row : List (Option Float)) (k : ℕ) (d : A)
      → count (get_or (after_row step states row) k d) ≤ count (get_or states k d) + 1
  unfolding after_row
  one_more states row k d = go (is_normal binary64 (mean row))
    where
      go : (b : Bool)
          → count (get_or (cond b (zipped (at_cell step (mean row)) states row) states) k d)
          ≤ count (get_or states k d) + 1
      go true = row_counts (mean row) states row k d
      go false = omega arith

-- ---- room for the points of the peptides that are left

module _ {A : Type 0} (step : A → Float → Float → A) (count : A → ℕ)
    (counted : (s : A) → (x y : Float) → count (step s x y) ≤ count s + 1) (n : ℕ) where
  -- n points more can be counted
  abbrev pub Room : ℕ → A → Type 0
  Room k s = count s + k < n

  cell_room : (k : ℕ) (y : Float) (s : A) (c : Option Float) → Room (suc k) s → Room k (at_cell step y s c)
  unfolding at_cell
  cell_room k y s none h = omega arith
  cell_room k y s (some x) h = omega (arith, counted s x y)

  row_room : (k : ℕ) (y : Float) (states : List A) (row : List (Option Float)) → All (Room (suc k)) states
      → (i : ℕ) (d : A) → i < length (zipped (at_cell step y) states row)
      → Room k (get_or (zipped (at_cell step y) states row) i d)
  unfolding zipped
  row_room k y [] row h i d l = absurd (not-suc-le-zero l)
  row_room k y (s ∷ states) [] h i d l = omega (arith, h i d l)
  row_room k y (s ∷ states) (c ∷ row) h zero d l = cell_room k y s c (h 0 d (omega arith))
  row_room k y (s ∷ states) (c ∷ row) h (suc i) d l =
      row_room k y states row (λ j e m. h (suc j) e (omega arith)) i d (omega arith)

  -- a row takes one point of each file's room at most
  pub room_after : (k : ℕ) (states : List A) (row : List (Option Float)) → All (Room (suc k)) states
      → All (Room k) (after_row step states row)
  unfolding after_row
  room_after k states row h = go (is_normal binary64 (mean row))
    where
      go : (b : Bool) → All (Room k) (cond b (zipped (at_cell step (mean row)) states row) states)
      go true = row_room k (mean row) states row h
      go false = λ i d l. omega (arith, h i d l)

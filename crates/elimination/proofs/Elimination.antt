-- One step of each definition of the elimination that a loop walks.
use mathlib.Core.Path.{◌≡◌, refl, sym, ap, ◌∙◌}
use mathlib.Core.List.{List, [], ◌∷◌, map}
use mathlib.Core.Bool.{Bool, true, false, cond, not, ◌&&◌, true≢false, false≢true}
use Prim.Native.Nat.{ℕ, suc, ◌+◌, ◌≤◌, ◌<◌}
use native.Mathlib.Numerals.{add-one}
use native.Mathlib.Omega.{arith}
use lib.ListN.{length, take, drop, length-drop, length-map}
use lib.Seq.{drop-cons}
use lib.Dec.{eqb, ltb}
use borrow.Author.Tests.{not-true, not-false, ltb-true, ltb-false}
use lib.Ieee.{Float, eq, le}
use Rattle.float.specs.Number.{zero64}
use Rattle.std.specs.Prelude.{Option, Some, None, position}
use Rattle.std.specs.List.{list_all, enumerate_from, position_or_len}
use Rattle.elimination.specs.Rows.{row_of}
use Rattle.elimination.specs.Elimination.{
  cell,
  lowest64,
  leading_zeros,
  largest,
  pivot_row,
  column_eliminated,
  echelon_from,
  cell_solved,
  row_solved,
  solved_from,
}

-- ---- a case by a test that is known

pub if_true : {A : Type 0} (b : Bool) (x y : A) → b ≡ true
    → (elim b as (λ t. A) [ true ↦ x | false ↦ y ]) ≡ x
if_true true x y e = refl
if_true false x y e = absurd (false≢true e)

pub if_false : {A : Type 0} (b : Bool) (x y : A) → b ≡ false
    → (elim b as (λ t. A) [ true ↦ x | false ↦ y ]) ≡ y
if_false true x y e = absurd (true≢false e)
if_false false x y e = refl

-- ---- the zeros before a row's first other cell

zeros_step : (b : Bool) (n m : ℕ) → n ≤ m → (elim b as (λ t. ℕ) [ true ↦ suc n | false ↦ 0 ]) ≤ suc m
zeros_step true n m h = omega arith
zeros_step false n m h = omega arith

pub zeros_within : (row : List Float) → leading_zeros row ≤ length row
unfolding leading_zeros
zeros_within [] = omega arith
zeros_within (x ∷ row) = zeros_step (eq x zero64) (leading_zeros row) (length row) (zeros_within row)

-- the first cell that is not zero, by its place
pub found_place : (row : List Float) → position_or_len (λ x. not (eq x zero64)) row ≡ leading_zeros row
unfolding leading_zeros
found_place [] = refl
found_place (x ∷ row) = step (eq x zero64) _ _ (found_place row)
  where
    step : (b : Bool) (n m : ℕ) → n ≡ m
        → cond (not (not b)) (1 + n) 0 ≡ (elim b as (λ t. ℕ) [ true ↦ suc m | false ↦ 0 ])
    step true n m e = omega arith
    step false n m e = refl

at_place : (b : Bool) (p j : ℕ) → cond b (Some p) None ≡ Some j → (b ≡ true) × (p ≡ j)
at_place true p j e = (refl, ap (λ (o : Option ℕ). elim o [ None ↦ p | Some z ↦ z ]) e)
at_place false p j e = absurd (no e)
  where
    no : {A : Type 0} {x : A} → None ≡ Some x → ⊥
    no e = cc

no_place : (b : Bool) (p : ℕ) → cond b (Some p) None ≡ None → b ≡ false
no_place true p e = absurd (no e)
  where
    no : {A : Type 0} {x : A} → Some x ≡ None → ⊥
    no e = cc
no_place false p e = refl

pub first_found : (row : List Float) (j : ℕ) → position (λ x. not (eq x zero64)) row ≡ Some j
    → (j ≡ leading_zeros row) × (j < length row)
first_found row j e =
    let f = at_place (ltb (position_or_len (λ x. not (eq x zero64)) row) (length row)) _ j e in
    (sym f.1 ∙ found_place row, omega (arith, f.1, ltb-true _ _ f.0))

pub first_none : (row : List Float) → position (λ x. not (eq x zero64)) row ≡ None → length row ≤ leading_zeros row
first_none row e =
    let f = no_place (ltb (position_or_len (λ x. not (eq x zero64)) row) (length row)) _ e in
    omega (arith, found_place row, ltb-false _ _ f)

-- ---- the search for a pivot row

module _ (k : ℕ) (rows : List (List Float)) (i best : ℕ) (x y : Float) (h : i < length rows)
    (here : cell k (row_of rows i) ≡ y) where
  first : map (cell k) (drop i rows) ≡ y ∷ map (cell k) (drop (suc i) rows)
  first =
      ap {B = List Float} (map (cell k)) (drop-cons rows i [] h)
      ∙ ap {B = List Float} (λ z. z ∷ map (cell k) (drop (suc i) rows)) here

  -- row i is at least as large as the best so far, and is taken
  pub largest_taken : le x y ≡ true
      → largest i best x (map (cell k) (drop i rows)) ≡ largest (suc i) i y (map (cell k) (drop (suc i) rows))
  unfolding largest
  largest_taken e = rw first (if_true (le x y) _ (largest (suc i) best x (map (cell k) (drop (suc i) rows))) e)

  -- or it is not, and is passed over
  pub largest_passed : le x y ≡ false
      → largest i best x (map (cell k) (drop i rows)) ≡ largest (suc i) best x (map (cell k) (drop (suc i) rows))
  unfolding largest
  largest_passed e = rw first (if_false (le x y) (largest (suc i) i y (map (cell k) (drop (suc i) rows))) _ e)

-- the row found is one of the candidates, or the one that the search starts from
pub largest_within : (ys : List Float) (i best m : ℕ) (x : Float) → best < m → i + length ys ≤ m
    → largest i best x ys < m
unfolding largest
largest_within [] i best m x b h = b
largest_within (y ∷ ys) i best m x b h =
    step (le x y) (largest (suc i) i y ys) (largest (suc i) best x ys) m
    (largest_within ys (suc i) i m y (omega arith) (omega arith))
    (largest_within ys (suc i) best m x b (omega arith))
  where
    step : (t : Bool) (p q m : ℕ) → p < m → q < m → (elim t as (λ s. ℕ) [ true ↦ p | false ↦ q ]) < m
    step true p q m hp hq = hp
    step false p q m hp hq = hq

-- which is a row of the system
pub pivot_within : (h k : ℕ) (rows : List (List Float)) → 0 < length rows → h ≤ length rows
    → pivot_row h k rows < length rows
pivot_within h k rows p l =
    largest_within (map (cell k) (drop h rows)) h 0 (length rows) lowest64 p
    (rw (length-map, length-drop) (omega arith))

-- ---- a column of the echelon form

module _ (left k h : ℕ) (rows : List (List Float)) where
  pub column_passed : eq (cell k (row_of rows (pivot_row h k rows))) zero64 ≡ true
      → echelon_from (suc left) k h rows ≡ echelon_from left (suc k) h rows
  unfolding echelon_from
  column_passed e =
      if_true (eq (cell k (row_of rows (pivot_row h k rows))) zero64) _
      (echelon_from left (suc k) (suc h) (column_eliminated h k rows)) e

  pub column_cleared : eq (cell k (row_of rows (pivot_row h k rows))) zero64 ≡ false
      → echelon_from (suc left) k h rows ≡ echelon_from left (suc k) (suc h) (column_eliminated h k rows)
  unfolding echelon_from
  column_cleared e =
      if_false (eq (cell k (row_of rows (pivot_row h k rows))) zero64) (echelon_from left (suc k) h rows) _ e

-- ---- the test of the left side, cell by cell and row by row

pub row_solved_all : (i j : ℕ) (row : List Float)
    → list_all (λ p. cell_solved (eqb i p.0) p.1) (enumerate_from j row) ≡ row_solved i j row
unfolding row_solved
row_solved_all i j [] = refl
row_solved_all i j (x ∷ row) =
    ap (λ b. cell_solved (eqb i j) x && b)
    (row_solved_all i (j + 1) row ∙ ap (λ (k : ℕ). row_solved i k row) (add-one j))

pub left_solved_row : (n i : ℕ) (rows : List (List Float)) → i < length rows
    → solved_from n i (drop i rows)
    ≡ (row_solved i 0 (take n (row_of rows i)) && solved_from n (suc i) (drop (suc i) rows))
unfolding solved_from
left_solved_row n i rows h = rw (drop-cons rows i [] h) refl

-- A test r, negated in the code, of what stands first in a conjunction t, which is the whole w: where it fails so
-- does the whole, and where it holds the rest m is the whole.
module _ (r a m t w : Bool) (is : r ≡ a) (first : t ≡ (a && m)) (whole : t ≡ w) where
  pub test_fails : not r ≡ true → false ≡ w
  test_fails e = sym (sym whole ∙ first ∙ rw (← is, not-true r e) refl)

  pub test_holds : not r ≡ false → m ≡ w
  test_holds e = sym (sym whole ∙ first ∙ rw (← is, not-false r e) refl)

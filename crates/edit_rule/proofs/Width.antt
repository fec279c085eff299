-- The elimination keeps the number of rows and the cells of each, so that a fit that is solved has a coefficient for
-- each column.
use mathlib.Core.Path.{◌≡◌, refl, sym, ap, ◌∙◌}
use mathlib.Core.Bool.{Bool, true, false, false≢true}
use mathlib.Core.List.{List, [], ◌∷◌, ◌++◌, map}
use Prim.Native.Nat.{ℕ, zero, suc, ◌+◌, ◌-◌, ◌*◌, ◌≤◌, ◌<◌}
use native.Mathlib.Omega.{arith}
use lib.Dec.{ltb}
use lib.Ieee.{Float, eq}
use lib.ListN.{length, take, drop, take-append-drop, length-append, length-drop, length-map, length-set}
use lib.Seq.{length-take-le}
use Rattle.matrix.specs.Rows.{swapped}
use Rattle.float.specs.Number.{zero64}
use Rattle.matrix.proofs.Laws.{Wide, wide_map, wide_swapped, length_flat}
use Rattle.matrix.proofs.Lists.{length_tabulate, length_zipped}
use Rattle.elimination.specs.Rows.{row_of, indexed}
use Rattle.elimination.specs.Elimination.{
  cell,
  divided_by,
  ridged,
  fill_zero,
  pivot_row,
  cleared,
  clear_below,
  column_eliminated,
}
use Rattle.elimination.specs.Elimination.{
  echelon_from,
  leading,
  divided,
  reduce,
  less_multiple,
  clear_above,
  backfill_from,
}
use Rattle.elimination.specs.Elimination.{eliminate, left_solved}
use Rattle.elimination.specs.Ridge.{Solution, solved, unsolved, first_solved, right_side, ridges}
use Rattle.elimination.proofs.Elimination.{pivot_within}
use Rattle.regression.specs.Regression.{Sample, fit_from, fit_of, normal}
use Rattle.regression.proofs.Laws.{wide_normal}
use Rattle.models.specs.Prediction.{is_solved}

-- n rows of w cells
abbrev Sized : (n w : ℕ) → List (List Float) → Type 0
Sized n w rows = (length rows ≡ n) × Wide w rows

-- either branch
either : {X : Type 0} (P : X → Type 0) (t : Bool) (a b : X) → P a → P b
    → P (elim t as (λ s. X) [ true ↦ a | false ↦ b ])
either P true a b pa pb = pa
either P false a b pa pb = pb

-- ---- parts of rows

module _ (w : ℕ) where
  wide_append : (xs ys : List (List Float)) → Wide w xs → Wide w ys → Wide w (xs ++ ys)
  wide_append [] ys a b = b
  wide_append (x ∷ xs) ys a b = (a.0, wide_append xs ys a.1 b)

  wide_take : (k : ℕ) (rows : List (List Float)) → Wide w rows → Wide w (take k rows)
  wide_take zero rows a = tt
  wide_take (suc k) [] a = tt
  wide_take (suc k) (r ∷ rows) a = (a.0, wide_take k rows a.1)

  wide_drop : (k : ℕ) (rows : List (List Float)) → Wide w rows → Wide w (drop k rows)
  wide_drop zero rows a = a
  wide_drop (suc k) [] a = tt
  wide_drop (suc k) (r ∷ rows) a = wide_drop k rows a.1

  wide_indexed : (g : ℕ → List Float → List Float)
      → ((i : ℕ) (r : List Float) → length r ≡ w → length (g i r) ≡ w)
      → (rows : List (List Float)) → Wide w rows → Wide w (indexed g rows)
  unfolding indexed
  wide_indexed g h [] a = tt
  wide_indexed g h (r ∷ rows) a =
      (h zero r a.0, wide_indexed (λ i. g (suc i)) (λ i. h (suc i)) rows a.1)

length_indexed : {A : Type 0} (g : ℕ → A → A) (xs : List A) → length (indexed g xs) ≡ length xs
unfolding indexed
length_indexed g [] = refl
length_indexed g (x ∷ xs) = ap suc (length_indexed (λ i. g (suc i)) xs)

-- ---- each step

module _ (n w : ℕ) (rows : List (List Float)) (s : Sized n w rows) where
  sized_ridged : (eps : Float) → Sized n w (fill_zero eps rows)
  sized_ridged eps =
      (length_indexed (ridged eps) rows ∙ s.0, wide_indexed w (ridged eps) (λ i r e. length-set r i _ ∙ e) rows s.1)

  -- the rows after some, made anew
  sized_below : (k : ℕ) (f : List Float → List Float)
      → ((r : List Float) → length r ≡ w → length (f r) ≡ w) → k ≤ n
      → Sized n w (take k rows ++ map f (drop k rows))
  sized_below k f h l =
      let e = s.0 in (
        length-append (take k rows) (map f (drop k rows))
            ∙ rw (length-take-le k rows (omega arith), length-map (drop k rows) f, length-drop) (omega arith),
        wide_append w (take k rows) (map f (drop k rows)) (wide_take w k rows s.1)
            (wide_map w w f h (drop k rows) (wide_drop w k rows s.1)),
      )

  -- the rows before some
  sized_above : (k : ℕ) (f : List Float → List Float)
      → ((r : List Float) → length r ≡ w → length (f r) ≡ w) → k ≤ n
      → Sized n w (map f (take k rows) ++ drop k rows)
  sized_above k f h l =
      let e = s.0 in (
        length-append (map f (take k rows)) (drop k rows)
            ∙ rw (length-map (take k rows) f, length-take-le k rows (omega arith), length-drop) (omega arith),
        wide_append w (map f (take k rows)) (drop k rows) (wide_map w w f h (take k rows) (wide_take w k rows s.1))
            (wide_drop w k rows s.1),
      )

  sized_swapped : (i j : ℕ) → i < n → j < n → Sized n w (swapped i j rows)
  sized_swapped i j h k =
      let e = s.0 in
      (simp length-set s.0, wide_swapped w i j rows s.1 (omega arith) (omega arith))

  sized_reduced : Sized n w (reduce n rows)
  unfolding divided
  sized_reduced = (length-map rows (divided n) ∙ s.0, wide_map w w (divided n) width rows s.1)
    where
      width : (r : List Float) → length r ≡ w → length (divided n r) ≡ w
      width r e =
          let j = leading n r in
          either (λ (t : List Float). length t ≡ w) (ltb j n) (take j r ++ map (divided_by (cell j r)) (drop j r)) r
          (length-append (take j r) (map (divided_by (cell j r)) (drop j r))
          ∙ rw (length-map (drop j r) (divided_by (cell j r)))
          (sym (length-append (take j r) (drop j r)) ∙ ap length (take-append-drop j r) ∙ e))
          e

  sized_cleared_above : (i : ℕ) → i ≤ n → Sized n w (clear_above n i rows)
  unfolding clear_above less_multiple
  sized_cleared_above i h =
      let j = leading n (row_of rows i) in
      either (Sized n w) (ltb j n) (map (less_multiple j (row_of rows i)) (take i rows) ++ drop i rows) rows
      (sized_above i (less_multiple j (row_of rows i)) (λ r e. length_zipped _ r (row_of rows i) ∙ e) h)
      s

length_cleared : (k w : ℕ) (pivot r : List Float) → k < w → length r ≡ w → length (cleared k pivot r) ≡ w
unfolding cleared
length_cleared k w pivot r h e =
    length-append (take k r) _ ∙ rw (length-take-le k r (omega arith), length_zipped, length-drop) (omega arith)

sized_eliminated : (n w h k : ℕ) (rows : List (List Float)) → Sized n w rows → h < n → k < w
    → Sized n w (column_eliminated h k rows)
unfolding column_eliminated clear_below
sized_eliminated n w h k rows s l m =
    let e = s.0 in
    let p : pivot_row h k rows < n = rw e at (pivot_within h k rows (omega arith) (omega arith)) in
    let t = sized_swapped n w rows s h (pivot_row h k rows) l p in
    let rows' = swapped h (pivot_row h k rows) rows in
    sized_below n w rows' t (suc h) (cleared k (row_of rows' h)) (λ r e. length_cleared k w _ r m e) (omega arith)

sized_echelon : (n w left k h : ℕ) (rows : List (List Float)) → Sized n w rows → h ≤ k → k + left ≤ n
    → n ≤ w
    → Sized n w (echelon_from left k h rows)
unfolding echelon_from
sized_echelon n w zero k h rows s a b c = s
sized_echelon n w (suc left) k h rows s a b c =
    let t = sized_eliminated n w h k rows s (omega arith) (omega arith) in
    either (Sized n w) (eq (cell k (row_of rows (pivot_row h k rows))) zero64) (echelon_from left (suc k) h rows)
    (echelon_from left (suc k) (suc h) (column_eliminated h k rows))
    (sized_echelon n w left (suc k) h rows s (omega arith) (omega arith) c)
    (sized_echelon n w left (suc k) (suc h) (column_eliminated h k rows) t (omega arith) (omega arith) c)

sized_backfilled : (n w i : ℕ) (rows : List (List Float)) → Sized n w rows → i ≤ n
    → Sized n w (backfill_from n i rows)
unfolding backfill_from
sized_backfilled n w zero rows s h = s
sized_backfilled n w (suc i) rows s h =
    sized_backfilled n w i (clear_above n i rows) (sized_cleared_above n w rows s i (omega arith)) (omega arith)

-- ---- a try, and the solution

sized_eliminate : (n w : ℕ) (eps : Float) (rows : List (List Float)) → Sized n w rows → n ≤ w
    → Sized n w (eliminate n eps rows)
unfolding eliminate
sized_eliminate n w eps rows s h =
    let echelon = echelon_from n 0 0 (fill_zero eps rows) in
    let e = sized_echelon n w n 0 0 (fill_zero eps rows) (sized_ridged n w rows s eps) (omega arith) (omega arith) h in
    let r = sized_reduced n w echelon e in
    sized_backfilled n w (length (reduce n echelon)) (reduce n echelon) r (omega (arith, r.0))

length_right : (n c : ℕ) (rows : List (List Float)) → Sized n (n + c) rows → length (right_side n rows) ≡ n * c
length_right n c rows s =
    length_flat c (map (drop n) rows) (wide_map (n + c) c (drop n) narrow rows s.1)
    ∙ ap (λ (m : ℕ). m * c) (length-map rows (drop n) ∙ s.0)
  where
    narrow : (r : List Float) → length r ≡ n + c → length (drop n r) ≡ c
    narrow r e = length-drop n r ∙ rw e (omega arith)

-- the cells of a solution
abbrev cells_in : Solution → ℕ → Type 0
cells_in (solved ridge cells) m = length cells ≡ m
cells_in unsolved m = Unit

length_solution : (n c : ℕ) (rows : List (List Float)) (ridges : List Float) → Sized n (n + c) rows
    → cells_in (first_solved n rows ridges) (n * c)
unfolding first_solved
length_solution n c rows [] s = tt
length_solution n c rows (eps ∷ more) s =
    either (λ (r : Solution). cells_in r (n * c)) (left_solved n (eliminate n eps rows))
    (solved eps (right_side n (eliminate n eps rows))) (first_solved n rows more)
    (length_right n c (eliminate n eps rows) (sized_eliminate n (n + c) eps rows s (omega arith)))
    (length_solution n c rows more s)

-- ---- the coefficients of a fit

pub length_coefficients : (D : ℕ) (ss : List Sample) → is_solved (fit_of D ss).outcome ≡ true
    → length (fit_of D ss).coefficients ≡ D
unfolding fit_of normal
length_coefficients D [] h = absurd (false≢true h)
length_coefficients D (s ∷ ss) h =
    let z : Sized D (D + 1) (normal D (s ∷ ss)) = (length_tabulate D _, wide_normal D (s ∷ ss)) in
    let c = length_solution D 1 (normal D (s ∷ ss)) ridges z in
    counted (first_solved D (normal D (s ∷ ss)) ridges) c h
  where
    counted : (r : Solution) → cells_in r (D * 1) → is_solved (fit_from (s ∷ ss) r).outcome ≡ true
        → length (fit_from (s ∷ ss) r).coefficients ≡ D
    counted (solved ridge cells) c t = c ∙ omega arith
    counted unsolved c t = absurd (false≢true t)

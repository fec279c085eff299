-- Two rows exchanged cell by cell: after k columns the first k cells of each row are the other's. For any cells.
use mathlib.Core.Path.{◌≡◌, refl, sym, ap, ◌∙◌}
use mathlib.Core.Logic.{◌≢◌}
use mathlib.Core.List.{List, [], ◌∷◌, ◌++◌, append-nil}
use Prim.Native.Nat.{ℕ, zero, suc, ◌+◌, ◌*◌, ◌≤◌, ◌<◌}
use native.Mathlib.Nat.{le_of_suc-le-suc, not-suc-le-zero}
use native.Mathlib.Decide.{ℕ_discrete}
use native.Mathlib.Omega.{arith}
use lib.ListN.{length, get_or, set, take, drop, take-append-drop, drop_of_length-le}
use lib.Seq.{drop-nil, take_all, lt-length-set, get_or-set_same, get_or-set_other, set-get_or, set-set, set_comm}
use Rattle.matrix.specs.Rows.{place_of, rows_of, swapped}
use Rattle.matrix.proofs.Laws.{Wide, wide_get_d, set_cell, rows_of_cell, get_d_rows_of}
use Rattle.matrix.proofs.Lists.{overwrite_suc}

module _ {A : Type 0} where
  -- the first k cells of one list, the others of another
  abbrev pub mix : ℕ → List A → List A → List A
  mix k xs ys = take k xs ++ drop k ys

  -- cell k of the mix is still the second list's
  pub get_d_mix : (k : ℕ) (xs ys : List A) (d : A) → k ≤ length xs → get_or (mix k xs ys) k d ≡ get_or ys k d
  get_d_mix zero xs ys d h = refl
  get_d_mix (suc k) [] ys d h = absurd (not-suc-le-zero h)
  get_d_mix (suc k) (x ∷ xs) [] d h =
      ap (λ (t : List A). get_or t k d) (ap (λ (t : List A). take k xs ++ t) (sym (drop-nil k)))
      ∙ get_d_mix k xs [] d (le_of_suc-le-suc h)
  get_d_mix (suc k) (x ∷ xs) (y ∷ ys) d h = get_d_mix k xs ys d (le_of_suc-le-suc h)

  -- the rows with the first k cells of rows i and j exchanged
  abbrev pub exchanged : (k i j : ℕ) → List (List A) → List (List A)
  exchanged k i j rows =
      set (set rows i (mix k (get_or rows j []) (get_or rows i []))) j (mix k (get_or rows i []) (get_or rows j []))

  pub exchanged_none : (i j : ℕ) (rows : List (List A)) → exchanged 0 i j rows ≡ rows
  exchanged_none i j rows = rw (set-get_or rows i [], set-get_or rows j [])

  pub exchanged_all : (cols i j : ℕ) (rows : List (List A)) → length (get_or rows i []) ≡ cols
      → length (get_or rows j []) ≡ cols → exchanged cols i j rows ≡ swapped i j rows
  exchanged_all cols i j rows e f =
      rw (whole (get_or rows j []) (get_or rows i []) f e, whole (get_or rows i []) (get_or rows j []) e f)
    where
      whole : (xs ys : List A) → length xs ≡ cols → length ys ≡ cols → mix cols xs ys ≡ xs
      whole xs ys e f =
          rw (take_all cols xs (omega arith), drop_of_length-le ys {i = cols} (omega arith)) (append-nil xs)

  -- of a row with itself
  exchanged_same : (k i : ℕ) (rows : List (List A)) → exchanged k i i rows ≡ rows
  exchanged_same k i rows = rw (take-append-drop k (get_or rows i []), set-get_or rows i [], set-get_or rows i [])

  set_cell_same : (i k : ℕ) (rows : List (List A)) (d : A) → set_cell i k (get_or (get_or rows i []) k d) rows ≡ rows
  set_cell_same i k rows d = rw (set-get_or (get_or rows i []) k d, set-get_or rows i [])

  set_twice : (i j : ℕ) (rows : List (List A)) (a b x y : List A) → i ≢ j
      → set (set (set (set rows i a) j b) i x) j y ≡ set (set rows i x) j y
  set_twice i j rows a b x y h =
      ap (λ (t : List (List A)). set t j y) (sym (set_comm (set rows i a) i j x b h))
      ∙ set-set (set (set rows i a) i x) j b y
      ∙ ap (λ (t : List (List A)). set t j y) (set-set rows i a x)

  -- cell k of row i and cell k of row j, exchanged by two stores, where the rows are not one
  two_rows : (k i j : ℕ) (rows : List (List A)) (x y : List A) (d : A) → i ≢ j → i < length rows
      → j < length rows
      → set_cell j k (get_or (get_or (set (set rows i x) j y) i []) k d) (set_cell i k (get_or (get_or (set (set rows i x) j y) j []) k d) (set (set rows i x) j y))
      ≡ set (set rows i (set x k (get_or y k d))) j (set y k (get_or x k d))
  two_rows k i j rows x y d f hi hj =
      let row_i : get_or (set (set rows i x) j y) i [] ≡ x =
      get_or-set_other (set rows i x) j i y [] f ∙ get_or-set_same rows i x [] hi in
      let row_j : get_or (set (set rows i x) j y) j [] ≡ y =
      get_or-set_same (set rows i x) j y [] (lt-length-set rows i x hj) in
      let still : get_or (set (set (set rows i x) j y) i (set x k (get_or y k d))) j [] ≡ y =
      get_or-set_other (set (set rows i x) j y) i j (set x k (get_or y k d)) [] (λ e. f (sym e)) ∙ row_j in
      rw (row_j, row_i, still) (set_twice i j rows x y (set x k (get_or y k d)) (set y k (get_or x k d)) f)

  -- one column more: cell k of row i takes row j's, and cell k of row j what row i had
  pub exchanged_suc : (k i j : ℕ) (rows : List (List A)) (d : A) → i < length rows → j < length rows
      → k < length (get_or rows i []) → k < length (get_or rows j [])
      → set_cell j k (get_or (get_or (exchanged k i j rows) i []) k d) (set_cell i k (get_or (get_or (exchanged k i j rows) j []) k d) (exchanged k i j rows))
      ≡ exchanged (suc k) i j rows
  exchanged_suc k i j rows d hi hj li lj = cases (ℕ_discrete i j)
    where
      more : (xs ys : List A) → k < length xs → k < length ys
          → set (mix k xs ys) k (get_or (mix k ys xs) k d) ≡ mix (suc k) xs ys
      more xs ys h m = ap (set (mix k xs ys) k) (get_d_mix k ys xs d (omega arith)) ∙ overwrite_suc xs ys k d h m

      cases : Dec (i ≡ j)
          → set_cell j k (get_or (get_or (exchanged k i j rows) i []) k d)
          (set_cell i k (get_or (get_or (exchanged k i j rows) j []) k d) (exchanged k i j rows)) ≡ exchanged
          (suc k) i j rows
      cases (yes e) =
          rw
          (← e, exchanged_same k i rows, exchanged_same (suc k) i rows, set_cell_same i k rows d, set_cell_same i k rows d)
      cases (no f) =
          two_rows k i j rows (mix k (get_or rows j []) (get_or rows i []))
          (mix k (get_or rows i []) (get_or rows j [])) d f hi hj
          ∙ rw (more (get_or rows j []) (get_or rows i []) lj li, more (get_or rows i []) (get_or rows j []) li lj)

  swap_places : (cols n k i j : ℕ) (l : List A) (rows : List (List A)) (d : A)
      → rows_of cols n l ≡ exchanged k i j rows → Wide cols rows → length rows ≡ n → i < n → j < n
      → k < cols
      → rows_of cols n (set (set l (place_of cols i k) (get_or l (place_of cols j k) d)) (place_of cols j k) (get_or l (place_of cols i k) d))
      ≡ exchanged (suc k) i j rows
  swap_places cols n k i j l rows d e w m hi hj hk =
      let v : A = get_or l (place_of cols j k) d in
      let t : A = get_or l (place_of cols i k) d in
      let val : v ≡ get_or (get_or (exchanged k i j rows) j []) k d =
      sym (get_d_rows_of cols n j k l d hj hk) ∙ ap (λ (r : List (List A)). get_or (get_or r j []) k d) e in
      let tmp : t ≡ get_or (get_or (exchanged k i j rows) i []) k d =
      sym (get_d_rows_of cols n i k l d hi hk) ∙ ap (λ (r : List (List A)). get_or (get_or r i []) k d) e in
      rows_of_cell cols n j k (set l (place_of cols i k) v) t hj hk
      ∙ ap (set_cell j k t) (rows_of_cell cols n i k l v hi hk ∙ ap (set_cell i k v) e)
      ∙ ap (λ (x : A). set_cell j k x (set_cell i k v (exchanged k i j rows))) tmp
      ∙ ap
      (λ (x : A). set_cell j k (get_or (get_or (exchanged k i j rows) i []) k d) (set_cell i k x (exchanged k i j rows))) val
      ∙ exchanged_suc k i j rows d (omega arith) (omega arith)
      (omega (arith, wide_get_d cols rows i w (omega arith))) (omega (arith, wide_get_d cols rows j w (omega arith)))

  -- the same by two stores in the flat list, in which the rows start at a and b
  pub swap_suc : (cols n k i j a b : ℕ) (l : List A) (rows : List (List A)) (d : A)
      → rows_of cols n l ≡ exchanged k i j rows → Wide cols rows → length rows ≡ n
      → (i < n) × (a ≡ i * cols) → (j < n) × (b ≡ j * cols) → k < cols
      → rows_of cols n (set (set l (a + k) (get_or l (b + k) d)) (b + k) (get_or l (a + k) d)) ≡ exchanged (suc k) i j rows
  swap_suc cols n k i j a b l rows d e w m at_i at_j hk =
      rw (at_i.1, at_j.1) (swap_places cols n k i j l rows d e w m at_i.0 at_j.0 hk)

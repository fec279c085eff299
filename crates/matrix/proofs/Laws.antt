-- Laws of the rows of a flat list, for any cells: lengths, a row, a cell, a part written back, and two lists that
-- agree in every cell. A part that was lent as `&mut cells[a..e]` comes back as `put a (e - a) part cells`.
use mathlib.Core.Path.{◌≡◌, refl, sym, ap, ◌∙◌}
use mathlib.Core.Logic.{⊎_elim}
use mathlib.Core.List.{List, [], ◌∷◌, ◌++◌, map, append_assoc, append-nil}
use Prim.Native.Nat.{ℕ, zero, suc, ◌+◌, ◌-◌, ◌*◌, ◌/◌, ◌%◌, ◌^◌, ◌≤◌, ◌<◌}
use native.Mathlib.Nat.{
  le_of_suc-le-suc,
  not-suc-le-zero,
  zero-mul,
  mul-zero,
  eq-zero-or-pos,
  suc-add,
  zero-add,
  add-zero,
  mul-le-mul_right,
  mod-lt,
  div-add-mod',
  div-lt_iff_lt-mul,
  mul-add-div_right,
  div-eq_of_lt,
  add_left_cancel,
}
use native.Mathlib.Omega.{arith}
use lib.ListN.{
  length,
  get_or,
  set,
  take,
  drop,
  length-append,
  length-take,
  length-drop,
  take-append-drop,
  drop_of_length-le,
  replicate,
}
use lib.Seq.{
  take-nil,
  length-take-le,
  take_all,
  take_at,
  drop_at,
  take-append-le,
  drop-append-le,
  take-add,
  drop-drop,
  take-take,
  get_or-take,
  get_or-drop,
  take-set-lt,
  drop-set-lt,
  take-set-le,
  drop-set-add,
  ext_get_or,
}
use Rattle.matrix.specs.Rows.{place_of, row_at, rows_of, flat, swapped}

-- ---- places

-- a row's cells end before the matrix does
pub row_end : (cols n i : ℕ) → i < n → i * cols + cols ≤ n * cols
row_end cols n i h = omega (arith, mul-le-mul_right {m = suc i} {n = n} cols h)

-- a cell's place is below the number of cells
pub place_below : (cols n i c : ℕ) → i < n → c < cols → place_of cols i c < n * cols
place_below cols n i c h l = omega (arith, row_end cols n i h)

-- and fits 32 bits in every matrix of peptides × files that document 01 allows
pub place_fits : (files peptides p f : ℕ) → p < peptides → f < files → peptides * files ≤ 16777216
    → place_of files p f < 2 ^ 32
place_fits files peptides p f h l m = omega (arith, place_below files peptides p f h l)

-- a place tells its row
pub place_row : (cols i c : ℕ) → c < cols → place_of cols i c / cols ≡ i
place_row cols i c l =
    mul-add-div_right {m = cols} (omega arith) i c ∙ ap (λ (k : ℕ). i + k) (div-eq_of_lt l) ∙ add-zero i

-- two cells with one place are one cell
pub place_inj : (cols i c j k : ℕ) → c < cols → k < cols → place_of cols i c ≡ place_of cols j k
    → (i ≡ j) × (c ≡ k)
place_inj cols i c j k l m e =
    let rows : i ≡ j = sym (place_row cols i c l) ∙ ap (λ (p : ℕ). p / cols) e ∙ place_row cols j k m in
    (rows, add_left_cancel (i * cols) (e ∙ ap (λ (r : ℕ). r * cols + k) (sym rows)))

-- every place below the number of cells is one cell's
pub place_split : (cols n p : ℕ) → p < n * cols
    → (p / cols < n) × (p % cols < cols) × (place_of cols (p / cols) (p % cols) ≡ p)
place_split cols n p h = ((div-lt_iff_lt-mul {k = cols} some).1 h, mod-lt p some, div-add-mod' p cols)
  where
    some : 0 < cols
    some =
        ⊎_elim (λ (z : cols ≡ 0). absurd (not-suc-le-zero (rw (z, mul-zero n) at h))) (λ (q : 0 < cols). q)
        (eq-zero-or-pos cols)

module _ {A : Type 0} where
  -- ---- a part written back

  -- the list with the k cells from a on replaced by a part
  abbrev pub put : (a k : ℕ) → List A → List A → List A
  put a k part l = take a l ++ (part ++ drop k (drop a l))

  pub length_put : (a k : ℕ) (part l : List A) → length part ≡ k → a + k ≤ length l
      → length (put a k part l) ≡ length l
  length_put a k part l e h = simp (length-append, length-take, length-drop) (omega arith)

  -- a part within a front, and past one
  pub put_left : (a k : ℕ) (part front rest : List A) → a + k ≤ length front
      → put a k part (front ++ rest) ≡ put a k part front ++ rest
  put_left a k part front rest h =
      let e : drop k (drop a (front ++ rest)) ≡ drop k (drop a front) ++ rest =
      ap (drop k) (drop-append-le a front rest (omega arith))
      ∙ drop-append-le k (drop a front) rest (simp length-drop (omega arith)) in
      rw (take-append-le a front rest (omega arith), e) (simp append_assoc)

  pub put_past : (b a k : ℕ) (part l : List A) → put (b + a) k part l ≡ take b l ++ put a k part (drop b l)
  put_past b a k part l = rw (take-add b a l, ← drop-drop a b l) (simp append_assoc)

  -- the rest of a front
  pub drop_take : (a b : ℕ) (l : List A) → drop a (take (a + b) l) ≡ take b (drop a l)
  drop_take zero b l = rw zero-add
  drop_take (suc a) b [] = rw suc-add (sym (take-nil b))
  drop_take (suc a) b (x ∷ l) = rw suc-add (drop_take a b l)

module _ {A : Type 0} where
  -- ---- rows

  -- each row has cols cells
  abbrev pub Wide : ℕ → List (List A) → Type 0
  Wide cols [] = Unit
  Wide cols (row ∷ rows) = (length row ≡ cols) × Wide cols rows

  pub length_rows_of : (cols n : ℕ) (l : List A) → length (rows_of cols n l) ≡ n
  unfolding rows_of
  length_rows_of cols zero l = refl
  length_rows_of cols (suc n) l = ap suc (length_rows_of cols n (drop cols l))

  -- the rows after the first
  pub row_at_suc : (cols i : ℕ) (l : List A) → row_at cols (suc i) l ≡ row_at cols i (drop cols l)
  row_at_suc cols i l =
      ap (take cols)
      (ap (λ (k : ℕ). drop k l) {x = suc i * cols} {y = cols + i * cols} (omega arith) ∙ sym (drop-drop (i * cols) cols l))

  pub row_rows_of : (cols n i : ℕ) (l : List A) → i < n → get_or (rows_of cols n l) i [] ≡ row_at cols i l
  unfolding rows_of
  row_rows_of cols zero i l h = absurd (not-suc-le-zero h)
  row_rows_of cols (suc n) zero l h = rw zero-mul
  row_rows_of cols (suc n) (suc i) l h =
      row_rows_of cols n i (drop cols l) (le_of_suc-le-suc h) ∙ sym (row_at_suc cols i l)

  pub length_row_at : (cols n i : ℕ) (l : List A) → i < n → n * cols ≤ length l
      → length (row_at cols i l) ≡ cols
  length_row_at cols n i l h e =
      length-take-le cols (drop (i * cols) l) (simp length-drop (omega (arith, row_end cols n i h)))

  -- a cell of a row
  pub get_d_row_at : (cols i c : ℕ) (l : List A) (d : A) → c < cols
      → get_or (row_at cols i l) c d ≡ get_or l (place_of cols i c) d
  get_d_row_at cols i c l d h = get_or-take cols (drop (i * cols) l) c d h ∙ get_or-drop (i * cols) l c d

  -- a cell of the rows
  pub get_d_rows_of : (cols n i c : ℕ) (l : List A) (d : A) → i < n → c < cols
      → get_or (get_or (rows_of cols n l) i []) c d ≡ get_or l (place_of cols i c) d
  get_d_rows_of cols n i c l d h m =
      ap (λ (r : List A). get_or r c d) (row_rows_of cols n i l h) ∙ get_d_row_at cols i c l d m

  pub wide_rows_of : (cols n : ℕ) (l : List A) → n * cols ≤ length l → Wide cols (rows_of cols n l)
  unfolding rows_of
  wide_rows_of cols zero l h = tt
  wide_rows_of cols (suc n) l h =
      (length-take-le cols l (omega arith), wide_rows_of cols n (drop cols l) (simp length-drop (omega arith)))

  pub wide_set : (cols : ℕ) (rows : List (List A)) (i : ℕ) (r : List A) → Wide cols rows → length r ≡ cols
      → Wide cols (set rows i r)
  wide_set cols [] i r w e = tt
  wide_set cols (row ∷ rows) zero r w e = (e, w.1)
  wide_set cols (row ∷ rows) (suc i) r w e = (w.0, wide_set cols rows i r w.1 e)

  pub wide_get_d : (cols : ℕ) (rows : List (List A)) (i : ℕ) → Wide cols rows → i < length rows
      → length (get_or rows i []) ≡ cols
  wide_get_d cols [] i w h = absurd (not-suc-le-zero h)
  wide_get_d cols (row ∷ rows) zero w h = w.0
  wide_get_d cols (row ∷ rows) (suc i) w h = wide_get_d cols rows i w.1 (le_of_suc-le-suc h)

  pub wide_swapped : (cols i j : ℕ) (rows : List (List A)) → Wide cols rows → i < length rows → j < length rows
      → Wide cols (swapped i j rows)
  wide_swapped cols i j rows w h k =
      wide_set cols (set rows i (get_or rows j [])) j (get_or rows i [])
      (wide_set cols rows i (get_or rows j []) w (wide_get_d cols rows j w k)) (wide_get_d cols rows i w h)

  -- ---- the flat list and its rows, there and back

  pub length_flat : (cols : ℕ) (rows : List (List A)) → Wide cols rows → length (flat rows) ≡ length rows * cols
  unfolding flat
  length_flat cols [] w = sym (zero-mul cols)
  length_flat cols (row ∷ rows) w =
      length-append row (flat rows) ∙ omega (arith, w.0, length_flat cols rows w.1)

  pub flat_append : (rows more : List (List A)) → flat (rows ++ more) ≡ flat rows ++ flat more
  unfolding flat
  flat_append [] more = refl
  flat_append (row ∷ rows) more =
      ap (λ (t : List A). row ++ t) (flat_append rows more) ∙ sym (append_assoc row (flat rows) (flat more))

  pub flat_rows_of : (cols n : ℕ) (l : List A) → flat (rows_of cols n l) ≡ take (n * cols) l
  unfolding rows_of flat
  flat_rows_of cols zero l = rw zero-mul
  flat_rows_of cols (suc n) l =
      ap (λ (t : List A). take cols l ++ t) (flat_rows_of cols n (drop cols l))
      ∙ sym (take-add cols (n * cols) l)
      ∙ ap (λ (k : ℕ). take k l) {x = cols + n * cols} {y = suc n * cols} (omega arith)

  -- of a list that is the matrix and no more
  pub flat_rows_of_all : (cols n : ℕ) (l : List A) → length l ≡ n * cols → flat (rows_of cols n l) ≡ l
  flat_rows_of_all cols n l e = flat_rows_of cols n l ∙ take_all (n * cols) l (omega arith)

  -- a first row in front of the others
  pub rows_of_cons : (cols n : ℕ) (row l : List A) → length row ≡ cols
      → rows_of cols (suc n) (row ++ l) ≡ row ∷ rows_of cols n l
  unfolding rows_of
  rows_of_cons cols n row l e = rw (take_at row l cols e, drop_at row l cols e)

  -- the rows of a flat list that has more cells after the matrix
  pub rows_of_flat_more : (cols : ℕ) (rows : List (List A)) (more : List A) → Wide cols rows
      → rows_of cols (length rows) (flat rows ++ more) ≡ rows
  unfolding rows_of flat
  rows_of_flat_more cols [] more w = refl
  rows_of_flat_more cols (row ∷ rows) more w =
      ap (rows_of cols (suc (length rows))) (append_assoc row (flat rows) more)
      ∙ rows_of_cons cols (length rows) row (flat rows ++ more) w.0
      ∙ ap (λ (t : List (List A)). row ∷ t) (rows_of_flat_more cols rows more w.1)

  pub rows_of_flat : (cols : ℕ) (rows : List (List A)) → Wide cols rows
      → rows_of cols (length rows) (flat rows) ≡ rows
  rows_of_flat cols rows w =
      ap (rows_of cols (length rows)) (sym (append-nil (flat rows))) ∙ rows_of_flat_more cols rows [] w

  -- ---- rows of a part

  -- n rows and then m more
  pub rows_of_add : (cols n m : ℕ) (l : List A)
      → rows_of cols (n + m) l ≡ rows_of cols n l ++ rows_of cols m (drop (n * cols) l)
  unfolding rows_of
  rows_of_add cols zero m l = rw (zero-add, zero-mul)
  rows_of_add cols (suc n) m l =
      ap (λ (k : ℕ). rows_of cols k l) (suc-add n m)
      ∙ ap (λ (t : List (List A)). take cols l ∷ t)
      (rows_of_add cols n m (drop cols l) ∙ ap (λ (t : List A). rows_of cols n (drop cols l) ++ rows_of cols m t) (drop-drop (n * cols) cols l ∙ ap (λ (k : ℕ). drop k l) {x = cols + n * cols} {y = suc n * cols} (omega arith)))

  pub drop_rows_of : (cols n i : ℕ) (l : List A) → i ≤ n
      → drop i (rows_of cols n l) ≡ rows_of cols (n - i) (drop (i * cols) l)
  drop_rows_of cols n i l h =
      ap (λ (k : ℕ). drop i (rows_of cols k l)) {x = n} {y = i + (n - i)} (omega arith)
      ∙ ap (drop i) (rows_of_add cols i (n - i) l)
      ∙ drop_at (rows_of cols i l) (rows_of cols (n - i) (drop (i * cols) l)) i (length_rows_of cols i l)

  pub take_rows_of : (cols n i : ℕ) (l : List A) → i ≤ n → take i (rows_of cols n l) ≡ rows_of cols i l
  take_rows_of cols n i l h =
      ap (λ (k : ℕ). take i (rows_of cols k l)) {x = n} {y = i + (n - i)} (omega arith)
      ∙ ap (take i) (rows_of_add cols i (n - i) l)
      ∙ take_at (rows_of cols i l) (rows_of cols (n - i) (drop (i * cols) l)) i (length_rows_of cols i l)

  -- what lies after the rows does not matter
  pub rows_of_take : (cols n k : ℕ) (l : List A) → n * cols ≤ k → rows_of cols n (take k l) ≡ rows_of cols n l
  unfolding rows_of
  rows_of_take cols zero k l h = refl
  rows_of_take cols (suc n) k l h =
      let e : k ≡ cols + (k - cols) = omega arith in
      let first : take cols (take k l) ≡ take cols l = take-take cols k l (omega arith) in
      let rest : drop cols (take k l) ≡ take (k - cols) (drop cols l) =
      ap (λ (j : ℕ). drop cols (take j l)) e ∙ drop_take cols (k - cols) l in
      rw (first, rest, rows_of_take cols n (k - cols) (drop cols l) (omega arith))

  pub rows_of_append : (cols n : ℕ) (l more : List A) → n * cols ≤ length l
      → rows_of cols n (l ++ more) ≡ rows_of cols n l
  rows_of_append cols n l more h =
      sym (rows_of_take cols n (n * cols) (l ++ more) (omega arith))
      ∙ ap (rows_of cols n) (take-append-le (n * cols) l more h)
      ∙ rows_of_take cols n (n * cols) l (omega arith)

  -- ---- a part written back, by rows

  -- a store into a cell
  pub rows_of_set : (cols n i c : ℕ) (l : List A) (v : A) → i < n → c < cols
      → rows_of cols n (set l (place_of cols i c) v) ≡ set (rows_of cols n l) i (set (row_at cols i l) c v)
  unfolding rows_of
  rows_of_set cols zero i c l v h m = absurd (not-suc-le-zero h)
  rows_of_set cols (suc n) zero c l v h m = rw (zero-mul, zero-add, take-set-lt cols l c v m, drop-set-lt cols l c v m)
  rows_of_set cols (suc n) (suc i) c l v h m =
      let e : place_of cols (suc i) c ≡ cols + place_of cols i c = omega arith in
      rw
      (e, take-set-le cols l (cols + place_of cols i c) v (omega arith), drop-set-add cols l (place_of cols i c) v, rows_of_set cols n i c (drop cols l) v (le_of_suc-le-suc h) m, row_at_suc cols i l)

  -- the rows with a store into one cell
  abbrev pub set_cell : (i c : ℕ) → A → List (List A) → List (List A)
  set_cell i c v rows = set rows i (set (get_or rows i []) c v)

  pub rows_of_cell : (cols n i c : ℕ) (l : List A) (v : A) → i < n → c < cols
      → rows_of cols n (set l (place_of cols i c) v) ≡ set_cell i c v (rows_of cols n l)
  rows_of_cell cols n i c l v h m =
      rows_of_set cols n i c l v h m
      ∙ ap (λ (r : List A). set (rows_of cols n l) i (set r c v)) (sym (row_rows_of cols n i l h))

  -- a part of one row
  pub rows_of_put : (cols n i c k : ℕ) (part l : List A) → i < n → n * cols ≤ length l → length part ≡ k
      → c + k ≤ cols
      → rows_of cols n (put (place_of cols i c) k part l) ≡ set (rows_of cols n l) i (put c k part (row_at cols i l))
  unfolding rows_of
  rows_of_put cols zero i c k part l h r e m = absurd (not-suc-le-zero h)
  rows_of_put cols (suc n) zero c k part l h r e m =
      let w : length (take cols l) ≡ cols = length-take-le cols l (omega arith) in
      let cut : put c k part l ≡ put c k part (take cols l) ++ drop cols l =
      ap (put c k part) (sym (take-append-drop cols l))
      ∙ put_left c k part (take cols l) (drop cols l) (omega arith) in
      let first : rows_of cols (suc n) (put c k part l) ≡ put c k part (take cols l) ∷ rows_of cols n (drop cols l) =
      ap (rows_of cols (suc n)) cut
      ∙ rows_of_cons cols n (put c k part (take cols l)) (drop cols l)
      (length_put c k part (take cols l) e (omega arith) ∙ w) in
      rw (zero-mul, zero-add) first
  rows_of_put cols (suc n) (suc i) c k part l h r e m =
      let w : length (take cols l) ≡ cols = length-take-le cols l (omega arith) in
      let at : place_of cols (suc i) c ≡ cols + place_of cols i c = omega arith in
      let cut : put (place_of cols (suc i) c) k part l ≡ take cols l ++ put (place_of cols i c) k part (drop cols l) =
      ap (λ (a : ℕ). put a k part l) at ∙ put_past cols (place_of cols i c) k part l in
      let rest : rows_of cols n (put (place_of cols i c) k part (drop cols l)) ≡ set (rows_of cols n (drop cols l)) i (put c k part (row_at cols (suc i) l)) =
      rows_of_put cols n i c k part (drop cols l) (le_of_suc-le-suc h) (simp length-drop (omega arith)) e m
      ∙ ap (λ (row : List A). set (rows_of cols n (drop cols l)) i (put c k part row)) (sym (row_at_suc cols i l)) in
      ap (rows_of cols (suc n)) cut
      ∙ rows_of_cons cols n (take cols l) (put (place_of cols i c) k part (drop cols l)) w
      ∙ ap (λ (t : List (List A)). take cols l ∷ t) rest

  -- a whole row
  pub rows_of_put_row : (cols n i : ℕ) (row l : List A) → i < n → n * cols ≤ length l → length row ≡ cols
      → rows_of cols n (put (i * cols) cols row l) ≡ set (rows_of cols n l) i row
  rows_of_put_row cols n i row l h r e =
      let whole : put 0 cols row (row_at cols i l) ≡ row =
      ap (λ (t : List A). row ++ t)
      (drop_of_length-le (row_at cols i l) {i = cols} (omega (arith, length_row_at cols n i l h r)))
      ∙ append-nil row in
      ap (λ (a : ℕ). rows_of cols n (put a cols row l)) (sym (add-zero (i * cols)))
      ∙ rows_of_put cols n i 0 cols row l h r e (omega arith)
      ∙ ap (set (rows_of cols n l) i) whole

  -- rows in front of others
  pub rows_of_append_add : (cols n m : ℕ) (front rest : List A) → length front ≡ n * cols
      → rows_of cols (n + m) (front ++ rest) ≡ rows_of cols n front ++ rows_of cols m rest
  rows_of_append_add cols n m front rest e =
      rows_of_add cols n m (front ++ rest)
      ∙ rw (drop_at front rest (n * cols) e, rows_of_append cols n front rest (omega arith))

  -- several whole rows
  pub rows_of_put_rows : (cols n i m : ℕ) (part l : List A) → i + m ≤ n → n * cols ≤ length l
      → length part ≡ m * cols
      → rows_of cols n (put (i * cols) (m * cols) part l) ≡ put i m (rows_of cols m part) (rows_of cols n l)
  rows_of_put_rows cols n i m part l h r e =
      let rest : List A = drop (m * cols) (drop (i * cols) l) in
      let q : ℕ = n - i - m in
      let len : length (take (i * cols) l) ≡ i * cols =
      length-take-le (i * cols) l (omega (arith, mul-le-mul_right {m = i} {n = n} cols (omega arith))) in
      let before : rows_of cols i (take (i * cols) l) ≡ take i (rows_of cols n l) =
      rows_of_take cols i (i * cols) l (omega arith) ∙ sym (take_rows_of cols n i l (omega arith)) in
      let after : rows_of cols q rest ≡ drop m (drop i (rows_of cols n l)) =
      sym
      (ap (drop m) (drop_rows_of cols n i l (omega arith)) ∙ drop_rows_of cols (n - i) m (drop (i * cols) l) (omega arith)) in
      ap (λ (k : ℕ). rows_of cols k (put (i * cols) (m * cols) part l)) {x = n} {y = i + (m + q)} (omega arith)
      ∙ rows_of_append_add cols i (m + q) (take (i * cols) l) (part ++ rest) len
      ∙ ap (λ (t : List (List A)). rows_of cols i (take (i * cols) l) ++ t) (rows_of_append_add cols m q part rest e)
      ∙ rw (before, after)

  -- ---- equal by rows

  -- two lists that are a matrix and no more are equal where their rows are
  pub ext_rows : (cols n : ℕ) (l m : List A) → length l ≡ n * cols → length m ≡ n * cols
      → rows_of cols n l ≡ rows_of cols n m → l ≡ m
  ext_rows cols n l m e f g = sym (flat_rows_of_all cols n l e) ∙ ap flat g ∙ flat_rows_of_all cols n m f

  -- a list whose rows are known is those rows, one after the other
  pub is_flat : (cols n : ℕ) (l : List A) (rows : List (List A)) → length l ≡ n * cols
      → rows_of cols n l ≡ rows → l ≡ flat rows
  is_flat cols n l rows e g = sym (flat_rows_of_all cols n l e) ∙ ap flat g

  -- the first n rows and the cells after them are the list
  pub flat_and_rest : (cols n : ℕ) (l : List A) → flat (rows_of cols n l) ++ drop (n * cols) l ≡ l
  flat_and_rest cols n l =
      ap (λ (t : List A). t ++ drop (n * cols) l) (flat_rows_of cols n l) ∙ take-append-drop (n * cols) l

  -- ---- where rows of any lengths start

  -- after the cells of the first i rows stand those of the others: row i starts there
  pub drop_flat : (rows : List (List A)) (i : ℕ) → drop (length (flat (take i rows))) (flat rows) ≡ flat (drop i rows)
  drop_flat rows i =
      let k : ℕ = length (flat (take i rows)) in
      ap (drop k) (ap flat (sym (take-append-drop i rows)) ∙ flat_append (take i rows) (drop i rows))
      ∙ drop_at (flat (take i rows)) (flat (drop i rows)) k refl

  wide_take : (cols : ℕ) (rows : List (List A)) (i : ℕ) → Wide cols rows → Wide cols (take i rows)
  wide_take cols rows zero w = tt
  wide_take cols [] (suc i) w = tt
  wide_take cols (row ∷ rows) (suc i) w = (w.0, wide_take cols rows i w.1)

  -- in rows of one length, row i at i times that
  pub first_cell : (cols : ℕ) (rows : List (List A)) (i : ℕ) → Wide cols rows → i ≤ length rows
      → drop (i * cols) (flat rows) ≡ flat (drop i rows)
  first_cell cols rows i w h =
      let many : length (flat (take i rows)) ≡ i * cols =
      length_flat cols (take i rows) (wide_take cols rows i w)
      ∙ ap (λ (k : ℕ). k * cols) (length-take-le i rows h) in
      ap (λ (k : ℕ). drop k (flat rows)) (sym many) ∙ drop_flat rows i

  -- a row in the place of another
  pub flat_set : (cols : ℕ) (rows : List (List A)) (i : ℕ) (row : List A) → Wide cols rows → i < length rows
      → length row ≡ cols → flat (set rows i row) ≡ put (i * cols) cols row (flat rows)
  flat_set cols rows i row w h e =
      let n : ℕ = length rows in
      let len : length (flat rows) ≡ n * cols = length_flat cols rows w in
      sym (is_flat cols n (put (i * cols) cols row (flat rows)) (set rows i row)
      (length_put (i * cols) cols row (flat rows) e (omega (arith, row_end cols n i h)) ∙ len)
      (rows_of_put_row cols n i row (flat rows) h (omega arith) e ∙ ap (λ (t : List (List A)). set t i row) (rows_of_flat cols rows w)))

  -- two lists that agree in every cell
  pub ext_cells : (cols n : ℕ) (d : A) (l m : List A) → length l ≡ n * cols → length m ≡ n * cols
      → ((i c : ℕ) → i < n → c < cols → get_or l (place_of cols i c) d ≡ get_or m (place_of cols i c) d)
      → l ≡ m
  ext_cells cols n d l m e f g = ext_get_or d l m (e ∙ sym f) (λ p h. cell p (place_split cols n p (omega arith)))
    where
      cell : (p : ℕ) → (p / cols < n) × (p % cols < cols) × (place_of cols (p / cols) (p % cols) ≡ p)
          → get_or l p d ≡ get_or m p d
      cell p s = rw s.2 at (g (p / cols) (p % cols) s.0 s.1)

-- each row made anew by one function
pub wide_map : {A B : Type 0} (v w : ℕ) (f : List A → List B)
    → ((r : List A) → length r ≡ v → length (f r) ≡ w) → (rows : List (List A)) → Wide v rows
    → Wide w (map f rows)
wide_map v w f h [] a = tt
wide_map v w f h (r ∷ rows) a = (h r a.0, wide_map v w f h rows a.1)

module _ {A : Type 0} where
  -- ---- a list filled from the front with one value

  pub fill_suc : (n : ℕ) (v : A) (l : List A) → n < length l
      → set (replicate n v ++ drop n l) n v ≡ replicate (suc n) v ++ drop (suc n) l
  fill_suc n v [] h = absurd (not-suc-le-zero h)
  fill_suc zero v (x ∷ l) h = refl
  fill_suc (suc n) v (x ∷ l) h = ap (λ (t : List A). v ∷ t) (fill_suc n v l (le_of_suc-le-suc h))

  pub fill_all : (n : ℕ) (v : A) (l : List A) → length l ≡ n
      → replicate n v ++ drop n l ≡ replicate (length l) v
  fill_all n v l e =
      ap (λ (t : List A). replicate n v ++ t) (drop_of_length-le l {i = n} (omega arith))
      ∙ append-nil (replicate n v)
      ∙ ap (λ (k : ℕ). replicate k v) (sym e)

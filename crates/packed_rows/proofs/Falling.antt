-- Laws of rows of falling width, for any cells: where each row starts and how many cells there are, a row, a cell, a
-- row written back, and the rows of a flat list.
use mathlib.Core.Path.{◌≡◌, refl, sym, ap, ◌∙◌}
use mathlib.Core.List.{List, [], ◌∷◌, ◌++◌}
use Prim.Native.Nat.{ℕ, zero, suc, ◌+◌, ◌-◌, ◌*◌, ◌/◌, ◌≤◌, ◌<◌}
use native.Mathlib.Nat.{le_of_suc-le-suc, not-suc-le-zero, suc-mul, mul-suc}
use native.Mathlib.Omega.{arith}
use lib.ListN.{length, get_or, set, take, drop, replicate, length-append, length-drop, take-append-drop}
use lib.ListN.{replicate-append-replicate}
use lib.Seq.{length-take-le, take_at, drop_at, drop-drop, get_or-take, get_or-drop}
use Rattle.matrix.specs.Rows.{flat}
use Rattle.matrix.specs.Lists.{tabulate}
use Rattle.matrix.proofs.Laws.{put, put_past, drop_flat}
use Rattle.matrix.proofs.Lists.{tabulate_same}
use Rattle.packed_rows.specs.Falling.{falling_rows, falling_start}

-- ---- where a row starts

-- one row further on: by the length of the row just left
pub start_next : (w j : ℕ) → falling_start w (suc j) ≡ falling_start w j + (w - j)
unfolding falling_start
start_next w zero = omega arith
start_next w (suc j) = omega (arith, start_next (w - 1) j)

start_le : (w i m : ℕ) → i ≤ m → falling_start w i ≤ falling_start w m
unfolding falling_start
start_le w zero m h = omega arith
start_le w (suc i) zero h = absurd (not-suc-le-zero h)
start_le w (suc i) (suc m) h = omega (arith, start_le (w - 1) i m (le_of_suc-le-suc h))

-- a row ends before the rows do
pub row_ends : (w m i : ℕ) → i < m → falling_start w i + (w - i) ≤ falling_start w m
row_ends w m i h = omega (arith, start_le w (suc i) m h, start_next w i)

-- as many rows as the first has cells: half of w × (w + 1) cells
twice_falling : (w : ℕ) → 2 * falling_start w w ≡ w * (w + 1)
unfolding falling_start
twice_falling zero = omega arith
twice_falling (suc w) =
    let n : suc w - 1 ≡ w = omega arith in
    let e : suc w * (suc w + 1) ≡ w * (w + 1) + 2 * w + 2 =
    suc-mul w (suc w + 1)
    ∙ ap (λ (x : ℕ). w * x + (suc w + 1)) {x = suc w + 1} {y = suc (w + 1)} (omega arith)
    ∙ ap (λ (x : ℕ). x + (suc w + 1)) (mul-suc w (w + 1))
    ∙ omega arith in
    rw n (omega (arith, twice_falling w, e))

pub half_falling : (w : ℕ) → falling_start w w ≡ w * (w + 1) / 2
half_falling w = omega (arith, twice_falling w)

-- each row with a cell more
pub one_longer : (w n : ℕ) → n ≤ w → falling_start (w + 1) n ≡ falling_start w n + n
unfolding falling_start
one_longer w zero h = refl
one_longer w (suc n) h =
    omega (arith, start_next (w + 1) n, start_next w n, one_longer w n (omega arith))

module _ {A : Type 0} where
  pub length_falling : (w n : ℕ) (l : List A) → length (falling_rows w n l) ≡ n
  unfolding falling_rows
  length_falling w zero l = refl
  length_falling w (suc n) l = ap suc (length_falling (w - 1) n (drop w l))

  -- row i
  pub row_falling : (w n i : ℕ) (l : List A) → i < n
      → get_or (falling_rows w n l) i [] ≡ take (w - i) (drop (falling_start w i) l)
  unfolding falling_rows falling_start
  row_falling w zero i l h = absurd (not-suc-le-zero h)
  row_falling w (suc n) zero l h = ap (λ (k : ℕ). take k l) {x = w} {y = w - 0} (omega arith)
  row_falling w (suc n) (suc i) l h =
      row_falling (w - 1) n i (drop w l) (le_of_suc-le-suc h)
      ∙ ap (take (w - 1 - i)) (drop-drop (falling_start (w - 1) i) w l)
      ∙ ap (λ (k : ℕ). take k (drop (w + falling_start (w - 1) i) l)) {x = w - 1 - i} {y = w - suc i} (omega arith)

  -- a cell of a row
  pub cell_falling : (w n i c : ℕ) (l : List A) (d : A) → i < n → c < w - i
      → get_or (get_or (falling_rows w n l) i []) c d ≡ get_or l (falling_start w i + c) d
  cell_falling w n i c l d h m =
      ap (λ (r : List A). get_or r c d) (row_falling w n i l h)
      ∙ get_or-take (w - i) (drop (falling_start w i) l) c d m
      ∙ get_or-drop (falling_start w i) l c d

  -- a first row in front of the others
  falling_cons : (w n : ℕ) (row l : List A) → length row ≡ w
      → falling_rows w (suc n) (row ++ l) ≡ row ∷ falling_rows (w - 1) n l
  unfolding falling_rows
  falling_cons w n row l e = rw (take_at row l w e, drop_at row l w e)

  -- row i written back
  pub put_falling : (w n i : ℕ) (r l : List A) → i < n → falling_start w n ≤ length l → length r ≡ w - i
      → falling_rows w n (put (falling_start w i) (w - i) r l) ≡ set (falling_rows w n l) i r
  unfolding falling_rows falling_start
  put_falling w zero i r l h f e = absurd (not-suc-le-zero h)
  put_falling w (suc n) zero r l h f e =
      ap (λ (k : ℕ). falling_rows w (suc n) (r ++ drop k l)) {x = w - 0} {y = w} (omega arith)
      ∙ falling_cons w n r (drop w l) (omega arith)
  put_falling w (suc n) (suc i) r l h f e =
      let s : ℕ = falling_start (w - 1) i in
      let back : put (w + s) (w - suc i) r l ≡ take w l ++ put s (w - 1 - i) r (drop w l) =
      put_past w s (w - suc i) r l
      ∙ ap (λ (k : ℕ). take w l ++ put s k r (drop w l)) {x = w - suc i} {y = w - 1 - i} (omega arith) in
      ap (falling_rows w (suc n)) back
      ∙ falling_cons w n (take w l) (put s (w - 1 - i) r (drop w l)) (length-take-le w l (omega arith))
      ∙ ap (λ (t : List (List A)). take w l ∷ t)
      (put_falling (w - 1) n i r (drop w l) (le_of_suc-le-suc h) (simp length-drop (omega arith)) (omega arith))

  -- ---- the flat list and its rows, there and back

  pub flat_falling : (w n : ℕ) (l : List A) → length l ≡ falling_start w n → flat (falling_rows w n l) ≡ l
  unfolding falling_rows falling_start flat
  flat_falling w zero [] e = refl
  flat_falling w zero (x ∷ l) e = absurd (omega arith)
  flat_falling w (suc n) l e =
      ap (λ (t : List A). take w l ++ t) (flat_falling (w - 1) n (drop w l) (simp length-drop (omega arith)))
      ∙ take-append-drop w l

  -- row 0 has w cells, and each row one cell less than the row before it
  abbrev pub Falling : ℕ → List (List A) → Type 0
  Falling w [] = Unit
  Falling w (row ∷ rows) = (length row ≡ w) × Falling (w - 1) rows

  pub falling_rows_lem : (w n : ℕ) (l : List A) → falling_start w n ≤ length l → Falling w (falling_rows w n l)
  unfolding falling_rows falling_start
  falling_rows_lem w zero l h = tt
  falling_rows_lem w (suc n) l h = (
    length-take-le w l (omega arith),
    falling_rows_lem (w - 1) n (drop w l) (simp length-drop (omega arith)),
  )

  pub falling_tabulate : (w n : ℕ) (f : ℕ → List A) → ((i : ℕ) → i < n → length (f i) ≡ w - i)
      → Falling w (tabulate n f)
  unfolding tabulate
  falling_tabulate w zero f h = tt
  falling_tabulate w (suc n) f h = (
    omega (arith, h 0 (omega arith)),
    falling_tabulate (w - 1) n (λ i. f (suc i)) (λ i l. omega (arith, h (suc i) (omega arith))),
  )

  -- row i has w - i cells
  pub falling_row : (w : ℕ) (rows : List (List A)) (i : ℕ) → Falling w rows → i < length rows
      → length (get_or rows i []) ≡ w - i
  falling_row w [] i f h = absurd (not-suc-le-zero h)
  falling_row w (row ∷ rows) zero f h = omega (arith, f.0)
  falling_row w (row ∷ rows) (suc i) f h = omega (arith, falling_row (w - 1) rows i f.1 (le_of_suc-le-suc h))

  pub falling_flat : (w : ℕ) (rows : List (List A)) → Falling w rows → falling_rows w (length rows) (flat rows) ≡ rows
  unfolding falling_rows flat
  falling_flat w [] f = refl
  falling_flat w (row ∷ rows) f =
      falling_cons w (length rows) row (flat rows) f.0
      ∙ ap (λ (t : List (List A)). row ∷ t) (falling_flat (w - 1) rows f.1)

  pub length_flat_falling : (w : ℕ) (rows : List (List A)) → Falling w rows
      → length (flat rows) ≡ falling_start w (length rows)
  unfolding falling_start flat
  length_flat_falling w [] f = refl
  length_flat_falling w (row ∷ rows) f =
      length-append row (flat rows) ∙ omega (arith, f.0, length_flat_falling (w - 1) rows f.1)

  falling_take : (w i : ℕ) (rows : List (List A)) → Falling w rows → Falling w (take i rows)
  falling_take w zero rows f = tt
  falling_take w (suc i) [] f = tt
  falling_take w (suc i) (row ∷ rows) f = (f.0, falling_take (w - 1) i rows f.1)

  -- row j starts where the lengths of the rows before it, added up, say
  pub falling_first_cell : (w j : ℕ) (rows : List (List A)) → Falling w rows → j ≤ length rows
      → drop (falling_start w j) (flat rows) ≡ flat (drop j rows)
  falling_first_cell w j rows f h =
      let many : length (flat (take j rows)) ≡ falling_start w j =
      length_flat_falling w (take j rows) (falling_take w j rows f) ∙ ap (falling_start w) (length-take-le j rows h) in
      ap (λ (k : ℕ). drop k (flat rows)) (sym many) ∙ drop_flat rows j

  -- rows of one cell again and again
  pub flat_constant : (w n : ℕ) (a : A) → flat (tabulate n (λ j. replicate (w - j) a)) ≡ replicate (falling_start w n) a
  unfolding tabulate flat falling_start
  flat_constant w zero a = refl
  flat_constant w (suc n) a =
      let rest : tabulate n (λ j. replicate (w - suc j) a) ≡ tabulate n (λ j. replicate (w - 1 - j) a) =
      tabulate_same n _ _ (λ j l. ap (λ (k : ℕ). replicate k a) {x = w - suc j} {y = w - 1 - j} (omega arith)) in
      ap (λ (t : List (List A)). replicate (w - 0) a ++ flat t) rest
      ∙ ap (λ (t : List A). replicate (w - 0) a ++ t) (flat_constant (w - 1) n a)
      ∙ replicate-append-replicate (w - 0) (falling_start (w - 1) n) a
      ∙ ap (λ (k : ℕ). replicate (k + falling_start (w - 1) n) a) {x = w - 0} {y = w} (omega arith)

-- Laws of the equations as they are stored: they unfold to the normal equations, of whatever samples; what one sample
-- more does to them, and what they are of none; and full rows folded and unfolded again.
use mathlib.Core.Path.{◌≡◌, refl, sym, ap, ◌∙◌}
use mathlib.Core.List.{List, [], ◌∷◌, ◌++◌}
use Prim.Native.Nat.{ℕ, zero, suc, ◌+◌, ◌-◌, ◌*◌, ◌/◌, ◌≤◌, ◌<◌, min, max}
use native.Mathlib.Nat.{le_of_suc-le-suc, not-suc-le-zero, lt_of_not-le}
use native.Mathlib.Decide.{dec_le}
use native.Mathlib.Numerals.{add-one}
use native.Mathlib.Omega.{arith}
use lib.ListN.{length, get_or, drop, replicate, length-append, length-drop, get_or-append, replicate-append-replicate}
use lib.Seq.{get_or-drop, drop-append-le, get_or_at}
use lib.Ieee.{Float, nan, binary64, add}
use Rattle.float.specs.Number.{zero64}
use Rattle.float.proofs.Products.{mul_commutes}
use Rattle.matrix.specs.Rows.{flat}
use Rattle.matrix.specs.Lists.{tabulate, zipped}
use Rattle.matrix.proofs.Laws.{Wide}
use Rattle.matrix.proofs.Lists.{length_tabulate, get_d_tabulate, tabulate_same, tabulate_snoc, tabulate_cells}
use Rattle.matrix.proofs.Lists.{drop_tabulate, tabulate_constant, wide_tabulate, zipped_tabulate}
use Rattle.matrix.proofs.Lists.{length_zipped, get_d_zipped, drop_zipped}
use Rattle.elimination.proofs.Made.{made}
use Rattle.regression.specs.Regression.{Sample, total, column, cov, rhs, normal, add_row}
use Rattle.packed_rows.specs.Added.{plus_scaled}
use Rattle.packed_rows.specs.Falling.{falling_rows, falling_start}
use Rattle.regression.specs.Triangle.{cov_from, cov_triangle, triangle, mirrored, unfolded, folded}
use Rattle.regression.specs.Triangle.{add_triangle_by, add_triangle}
use Rattle.packed_rows.proofs.Falling.{Falling, falling_flat, length_flat_falling, falling_tabulate, falling_row}
use Rattle.packed_rows.proofs.Falling.{flat_constant, half_falling, one_longer}

-- ---- the rows that are stored

module _ (D : ℕ) (ss : List Sample) where
  -- row j
  abbrev row_of : ℕ → List Float
  row_of j = cov_from D ss j ++ rhs ss j ∷ []

  length_row_of : (j : ℕ) → j < D → length (row_of j) ≡ D + 1 - j
  length_row_of j h = simp (length-append, length_tabulate) (omega arith)

  falling_triangle : Falling (D + 1) (triangle D ss)
  unfolding triangle
  falling_triangle = falling_tabulate (D + 1) D row_of length_row_of

  rows_triangle : length (triangle D ss) ≡ D
  unfolding triangle
  rows_triangle = length_tabulate D row_of

  -- in one list, each row starts after the cells of the rows before it, and the rows are found again
  pub length_triangle : length (flat (triangle D ss)) ≡ falling_start (D + 1) D
  length_triangle =
      length_flat_falling (D + 1) (triangle D ss) falling_triangle ∙ ap (falling_start (D + 1)) rows_triangle

  pub rows_of_triangle : falling_rows (D + 1) D (flat (triangle D ss)) ≡ triangle D ss
  rows_of_triangle =
      ap (λ (n : ℕ). falling_rows (D + 1) n (flat (triangle D ss))) (sym rows_triangle)
      ∙ falling_flat (D + 1) (triangle D ss) falling_triangle

  -- ---- they unfold to the normal equations

  -- cell k of row j, and the right side's
  cell : (j k : ℕ) → j < D → k < D - j → get_or (row_of j) k nan ≡ cov ss j (j + k)
  cell j k h l =
      get_or-append (cov_from D ss j) (rhs ss j ∷ []) nan k (rw length_tabulate l)
      ∙ get_d_tabulate (D - j) (λ i. cov ss j (j + i)) k nan l

  last_cell : (j : ℕ) → get_or (row_of j) (D - j) nan ≡ rhs ss j
  last_cell j =
      get_or_at (cov_from D ss j) (rhs ss j) [] nan (D - j) (length_tabulate (D - j) (λ i. cov ss j (j + i)))

  -- cov is symmetric, to the bit
  pub cov_symmetric : (j k : ℕ) → cov ss j k ≡ cov ss k j
  cov_symmetric j k i = total (λ s. mul_commutes binary64 (column j s) (column k s) i) ss

  at_row : (i : ℕ) → i < D → get_or (triangle D ss) i [] ≡ row_of i
  unfolding triangle
  at_row i h = get_d_tabulate D row_of i [] h

  mirrored_cell : (j k : ℕ) → j < D → k < D → mirrored (triangle D ss) j k ≡ cov ss j k
  mirrored_cell j k h l = cases (dec_le j k)
    where
      cases : Dec (j ≤ k) → mirrored (triangle D ss) j k ≡ cov ss j k
      cases (yes m) =
          let a : min j k ≡ j = omega arith in
          let b : max j k ≡ k = omega arith in
          rw (a, b, at_row j h)
          (cell j (k - j) h (omega arith) ∙ ap (cov ss j) {x = j + (k - j)} {y = k} (omega arith))
      cases (no f) =
          let m : k < j = lt_of_not-le f in
          let a : min j k ≡ k = omega arith in
          let b : max j k ≡ j = omega arith in
          rw (a, b, at_row k l)
          (cell k (j - k) l (omega arith)
          ∙ ap (cov ss k) {x = k + (j - k)} {y = j} (omega arith)
          ∙ cov_symmetric k j)

  mirrored_last : (j : ℕ) → j < D → mirrored (triangle D ss) j D ≡ rhs ss j
  mirrored_last j h =
      let a : min j D ≡ j = omega arith in
      let b : max j D ≡ D = omega arith in
      rw (a, b, at_row j h) (last_cell j)

-- For every order and every list of samples, cell by cell: so after each row that is added, and at the end.
pub unfolded_triangle : (D : ℕ) (ss : List Sample) → unfolded D (triangle D ss) ≡ normal D ss
unfolding unfolded normal
unfolded_triangle D ss =
    tabulate_same D _ _
    (λ j h.
    ap (λ (n : ℕ). tabulate n (mirrored (triangle D ss) j)) (add-one D)
    ∙ tabulate_snoc D (mirrored (triangle D ss) j)
    ∙ cc (
      tabulate_same D (mirrored (triangle D ss) j) (cov ss j) (λ k l. mirrored_cell D ss j k h l),
      mirrored_last D ss j h,
    ))

-- and what is stored of the normal equations is their triangle
pub folded_normal : (D : ℕ) (ss : List Sample) → folded D (normal D ss) ≡ triangle D ss
unfolding folded normal triangle
folded_normal D ss =
    tabulate_same D _ _
    (λ j h.
    let row : List Float = tabulate D (cov ss j) in
    let n : length row ≡ D = length_tabulate D (cov ss j) in
    ap (drop j) (get_d_tabulate D (λ i. tabulate D (cov ss i) ++ rhs ss i ∷ []) j [] h)
    ∙ drop-append-le j row (rhs ss j ∷ []) (omega arith)
    ∙ ap (λ (t : List Float). t ++ rhs ss j ∷ []) (drop_tabulate j D (cov ss j)))

-- ---- one sample more

module _ (f : Float → Float → Float → Float) where
  -- to a table of rows
  pub add_tabulate : (n : ℕ) (row_at : ℕ → List Float) (ext : List Float) → n ≤ length ext
      → add_triangle_by f (tabulate n row_at) ext
      ≡ tabulate n (λ j. zipped (f (get_or ext j nan)) (row_at j) (drop j ext))
  unfolding tabulate add_triangle_by
  add_tabulate zero row_at ext h = refl
  add_tabulate (suc n) row_at [] h = absurd (not-suc-le-zero h)
  add_tabulate (suc n) row_at (x ∷ ext) h =
      ap (λ (t : List (List Float)). zipped (f x) (row_at 0) (x ∷ ext) ∷ t)
      (add_tabulate n (λ j. row_at (suc j)) ext (le_of_suc-le-suc h))

  -- row after row
  pub made_add : (j : ℕ) (rows : List (List Float)) (ext : List Float) → length rows ≤ length ext → length rows ≤ j
      → made (λ i row. zipped (f (get_or ext i nan)) row (drop i ext)) j rows ≡ add_triangle_by f rows ext
  unfolding made add_triangle_by
  made_add zero [] ext l h = refl
  made_add (suc j) [] ext l h = refl
  made_add zero (row ∷ rows) ext l h = absurd (not-suc-le-zero h)
  made_add (suc j) (row ∷ rows) [] l h = absurd (not-suc-le-zero l)
  made_add (suc j) (row ∷ rows) (x ∷ ext) l h =
      ap (λ (t : List (List Float)). zipped (f x) row (x ∷ ext) ∷ t)
      (made_add j rows ext (le_of_suc-le-suc l) (le_of_suc-le-suc h))

  -- the rows keep their lengths
  length_add : (rows : List (List Float)) (ext : List Float) → length (add_triangle_by f rows ext) ≡ length rows
  unfolding add_triangle_by
  length_add [] ext = refl
  length_add (row ∷ rows) [] = refl
  length_add (row ∷ rows) (x ∷ ext) = ap suc (length_add rows ext)

  falling_add : (w : ℕ) (rows : List (List Float)) (ext : List Float) → Falling w rows
      → Falling w (add_triangle_by f rows ext)
  unfolding add_triangle_by
  falling_add w [] ext h = tt
  falling_add w (row ∷ rows) [] h = h
  falling_add w (row ∷ rows) (x ∷ ext) h =
      (length_zipped (f x) row (x ∷ ext) ∙ h.0, falling_add (w - 1) rows ext h.1)

-- any rows that are stored, each from its diagonal on
module _ (D : ℕ) (rows : List (List Float)) (count : length rows ≡ D) (shape : Falling (D + 1) rows) where
  row_long : (j : ℕ) → j < D → length (get_or rows j []) ≡ D + 1 - j
  row_long j h = falling_row (D + 1) rows j shape (omega arith)

  -- the full row from the diagonal on
  pub from_diagonal : (j : ℕ) → j < D → drop j (tabulate (D + 1) (mirrored rows j)) ≡ get_or rows j []
  from_diagonal j h =
      drop_tabulate j (D + 1) (mirrored rows j)
      ∙ tabulate_same (D + 1 - j) _ (λ k. get_or (get_or rows j []) k nan) (λ k l. cell_is j k)
      ∙ tabulate_cells (D + 1 - j) (get_or rows j []) nan (row_long j h)
    where
      cell_is : (j k : ℕ) → mirrored rows j (j + k) ≡ get_or (get_or rows j []) k nan
      cell_is j k =
          let a : min j (j + k) ≡ j = omega arith in
          let b : max j (j + k) - j ≡ k = omega arith in
          rw (a, b)

  -- unfolded and folded again
  pub folded_unfolded : folded D (unfolded D rows) ≡ rows
  unfolding folded unfolded
  folded_unfolded =
      tabulate_same D _ (λ j. get_or rows j [])
      (λ j h.
      ap (drop j) (get_d_tabulate D (λ i. tabulate (D + 1) (mirrored rows i)) j [] h) ∙ from_diagonal j h)
      ∙ tabulate_cells D rows [] count

  module _ (ext : List Float) (wide : length ext ≡ D + 1) where
    -- what is stored of the full rows with a sample added is what is stored with the sample added
    added_full : folded D (add_row (unfolded D rows) ext) ≡ add_triangle (folded D (unfolded D rows)) ext
    unfolding folded unfolded
    added_full =
        let full : ℕ → List Float = λ j. tabulate (D + 1) (mirrored rows j) in
        let more : ℕ → List Float = λ j. zipped (plus_scaled (get_or ext j nan)) (full j) ext in
        tabulate_same D _ _
        (λ j h.
        ap (λ (t : List (List Float)). drop j (get_or t j []))
        (zipped_tabulate (λ (r : List Float) x. zipped (plus_scaled x) r ext) nan D full ext (omega arith))
        ∙ ap (drop j) (get_d_tabulate D more j [] h)
        ∙ drop_zipped (plus_scaled (get_or ext j nan)) j (full j) ext
        ∙ ap (λ (t : List Float). zipped (plus_scaled (get_or ext j nan)) (drop j t) (drop j ext))
        (sym (get_d_tabulate D full j [] h)))
        ∙ sym (add_tabulate plus_scaled D (λ j. drop j (get_or (unfolded D rows) j [])) ext (omega arith))

    pub folded_add : folded D (add_row (unfolded D rows) ext) ≡ add_triangle rows ext
    folded_add = added_full ∙ ap (λ (t : List (List Float)). add_triangle t ext) folded_unfolded

    -- a cell of the full rows gains the product of the sample's cells for its row and its column
    module _ (j k : ℕ) (h : j < D) (l : k ≤ D) where
      -- the stored row it stands in, and how far from its first cell
      abbrev i : ℕ
      i = min j k

      abbrev c : ℕ
      c = max j k - min j k

      added : add_triangle rows ext
          ≡ tabulate D (λ n. zipped (plus_scaled (get_or ext n nan)) (get_or rows n []) (drop n ext))
      added =
          ap (λ (t : List (List Float)). add_triangle t ext) (sym (tabulate_cells D rows [] count))
          ∙ add_tabulate plus_scaled D (λ n. get_or rows n []) ext (omega arith)

      stored_add : mirrored (add_triangle rows ext) j k
          ≡ plus_scaled (get_or ext i nan) (mirrored rows j k) (get_or ext (i + c) nan)
      stored_add =
          ap (λ (t : List (List Float)). mirrored t j k) added
          ∙ ap (λ (t : List Float). get_or t c nan)
          (get_d_tabulate D (λ n. zipped (plus_scaled (get_or ext n nan)) (get_or rows n []) (drop n ext))
          i [] (omega arith))
          ∙ get_d_zipped (plus_scaled (get_or ext i nan)) (get_or rows i []) (drop i ext) c nan nan
          (omega (arith, row_long i (omega arith))) (simp length-drop (omega arith))
          ∙ ap (plus_scaled (get_or ext i nan) (mirrored rows j k)) (get_or-drop i ext c nan)

      mirrored_add : mirrored (add_triangle rows ext) j k
          ≡ plus_scaled (get_or ext j nan) (mirrored rows j k) (get_or ext k nan)
      mirrored_add = stored_add ∙ turned (dec_le j k)
        where
          turned : Dec (j ≤ k) → plus_scaled (get_or ext i nan) (mirrored rows j k) (get_or ext (i + c) nan)
              ≡ plus_scaled (get_or ext j nan) (mirrored rows j k) (get_or ext k nan)
          turned (yes m) =
              let a : i ≡ j = omega arith in
              let b : i + c ≡ k = omega arith in
              ap (λ (n : ℕ). plus_scaled (get_or ext n nan) (mirrored rows j k) (get_or ext (i + c) nan)) a
              ∙ ap (λ (n : ℕ). plus_scaled (get_or ext j nan) (mirrored rows j k) (get_or ext n nan)) b
          turned (no f) =
              let m : k < j = lt_of_not-le f in
              let a : i ≡ k = omega arith in
              let b : i + c ≡ j = omega arith in
              ap (λ (n : ℕ). plus_scaled (get_or ext n nan) (mirrored rows j k) (get_or ext (i + c) nan)) a
              ∙ ap (λ (n : ℕ). plus_scaled (get_or ext k nan) (mirrored rows j k) (get_or ext n nan)) b
              ∙ ap (add binary64 (mirrored rows j k)) (mul_commutes binary64 (get_or ext k nan) (get_or ext j nan))

    -- in one list, the rows with the sample added are found again
    pub rows_of_add : falling_rows (D + 1) D (flat (add_triangle rows ext)) ≡ add_triangle rows ext
    rows_of_add =
        ap (λ (n : ℕ). falling_rows (D + 1) n (flat (add_triangle rows ext)))
        (sym (length_add plus_scaled rows ext ∙ count))
        ∙ falling_flat (D + 1) (add_triangle rows ext) (falling_add plus_scaled (D + 1) rows ext shape)

    -- the full rows with a sample added, and the stored rows with it added, unfolded: the same, whatever was stored
    pub unfolded_add : unfolded D (add_triangle rows ext) ≡ add_row (unfolded D rows) ext
    unfolding unfolded
    unfolded_add =
        let full : ℕ → List Float = λ j. tabulate (D + 1) (mirrored rows j) in
        tabulate_same D _ _
        (λ j h.
        tabulate_same (D + 1) _ _ (λ k l. mirrored_add j k h (omega arith))
        ∙ sym (zipped_tabulate (plus_scaled (get_or ext j nan)) nan (D + 1) (mirrored rows j) ext (omega arith)))
        ∙ sym (zipped_tabulate (λ (r : List Float) x. zipped (plus_scaled x) r ext) nan D full ext (omega arith))

-- ---- no sample

pub triangle_nil : (D : ℕ) → flat (triangle D []) ≡ replicate (falling_start (D + 1) D) zero64
unfolding triangle
triangle_nil D =
    ap flat
    (tabulate_same D _ (λ j. replicate (D + 1 - j) zero64)
    (λ j l.
    ap (λ (t : List Float). t ++ zero64 ∷ []) (tabulate_constant (D - j) zero64)
    ∙ replicate-append-replicate (D - j) 1 zero64
    ∙ ap (λ (k : ℕ). replicate k zero64) {x = D - j + 1} {y = D + 1 - j} (omega arith)))
    ∙ flat_constant (D + 1) D zero64

-- ---- how many cells

-- full rows
pub wide_unfolded : (D : ℕ) (rows : List (List Float)) → Wide (D + 1) (unfolded D rows)
unfolding unfolded
wide_unfolded D rows = wide_tabulate (D + 1) D _ (λ j. length_tabulate (D + 1) (mirrored rows j))

pub length_unfolded : (D : ℕ) (rows : List (List Float)) → length (unfolded D rows) ≡ D
unfolding unfolded
length_unfolded D rows = length_tabulate D _

-- those that are stored, and of them those of cov: 5,050 for order 100, in rows of D, D - 1, .., 1
pub cells_triangle : (D : ℕ) → falling_start (D + 1) D ≡ D * (D + 1) / 2 + D
cells_triangle D = omega (arith, one_longer D D (omega arith), half_falling D)

module _ (D : ℕ) (ss : List Sample) where
  falling_cov : Falling D (cov_triangle D ss)
  unfolding cov_triangle
  falling_cov = falling_tabulate D D (cov_from D ss) (λ j h. length_tabulate (D - j) _)

  rows_cov : length (cov_triangle D ss) ≡ D
  unfolding cov_triangle
  rows_cov = length_tabulate D (cov_from D ss)

  pub cov_row : (j : ℕ) → j < D → length (get_or (cov_triangle D ss) j []) ≡ D - j
  cov_row j h = falling_row D (cov_triangle D ss) j falling_cov (omega (arith, rows_cov))

  pub cov_cells : length (flat (cov_triangle D ss)) ≡ D * (D + 1) / 2
  cov_cells =
      length_flat_falling D (cov_triangle D ss) falling_cov ∙ ap (falling_start D) rows_cov ∙ half_falling D

pub cov_cells_100 : (ss : List Sample) → length (flat (cov_triangle 100 ss)) ≡ 5050
cov_cells_100 ss = cov_cells 100 ss

-- Cells that are not -0.0 stay so while rows are subtracted, and stay as they are where the subtracted row is zero.
use mathlib.Core.Path.{◌≡◌, refl, sym, ap, ap₂, ◌∙◌, subst}
use mathlib.Core.Bool.{Bool, true, false, ◌&&◌, false≢true}
use mathlib.Core.List.{List, [], ◌∷◌, ◌++◌, map}
use Prim.Native.Nat.{ℕ, zero, suc, ◌+◌, ◌-◌, ◌*◌, ◌≤◌, ◌<◌}
use native.Mathlib.Nat.{not-suc-le-zero, le_of_suc-le-suc}
use native.Mathlib.Omega.{arith}
use lib.ListN.{length, get_or, set, take, drop, take-append-drop}
use lib.Seq.{get_or-take, get_or-set_same, get_or-set_other}
use lib.Dec.{T, ltb}
use lib.Ieee.{Float, nan, binary64, fits, mul, div, eq}
use lib.Ieee.Fits.{mul-fits}
use Rattle.float.specs.Number.{zero64}
use Rattle.std.specs.List.{list_all}
use Rattle.float.specs.Value.{is_finite, is_zero, not_minus_zero, Sum}
use Rattle.float.proofs.Zeros.{sub_next, sub_product, is_zero_lem}
use borrow.Author.Count.{below_more}
use Rattle.matrix.specs.Lists.{zipped}
use Rattle.matrix.specs.Rows.{rows_of}
use Rattle.elimination.specs.Rows.{row_of}
use Rattle.elimination.specs.Elimination.{cell, less_scaled, leading_zeros, leading, less_multiple, clear_above}
use Rattle.elimination.specs.Plain.{Plain, PlainRows, Zeros}
use Rattle.elimination.proofs.Rows.{left_part, front_rows}

-- ---- the cells left of a row's first nonzero cell are zeros

pub leading_zeros_lem : (row : List Float) → Zeros (leading_zeros row) row
unfolding leading_zeros
leading_zeros_lem [] k h = absurd (not-suc-le-zero h)
leading_zeros_lem (x ∷ row) k h = by (eq x zero64) refl (leading_zeros_lem row) k h
  where
    by : (b : Bool) → eq x zero64 ≡ b → Zeros (leading_zeros row) row → (k : ℕ)
        → k < (elim b as (λ t. ℕ) [ true ↦ suc (leading_zeros row) | false ↦ 0 ]) → is_zero (cell k (x ∷ row)) ≡ true
    by true e z zero l = sym (is_zero_lem x) ∙ e
    by true e z (suc k) l = z k (le_of_suc-le-suc l)
    by false e z k l = absurd (not-suc-le-zero l)

-- ---- where a finite multiple of zeros is subtracted, what is not -0.0 stays

zipped_none : {A B : Type 0} (g : A → B → A) (xs : List A) → zipped g xs [] ≡ xs
unfolding zipped
zipped_none g [] = refl
zipped_none g (x ∷ xs) = refl

zeros_skipped : (factor : Float) → is_finite factor ≡ true → (j : ℕ) (row by : List Float)
    → Zeros j by → Plain j row
    → take j row ++ zipped (less_scaled factor) (drop j row) (drop j by) ≡ zipped (less_scaled factor) row by
unfolding zipped
zeros_skipped factor f zero row by z p = refl
zeros_skipped factor f (suc j) [] by z p = refl
zeros_skipped factor f (suc j) (x ∷ row) [] z p =
    ap (λ (r : List Float). take (suc j) (x ∷ row) ++ r) (zipped_none (less_scaled factor) (drop j row))
    ∙ take-append-drop (suc j) (x ∷ row)
zeros_skipped factor f (suc j) (x ∷ row) (y ∷ by) z p =
    ap₂ {C = List Float} (λ (a : Float) (r : List Float). a ∷ r)
    (sym (sub_product x y factor (p 0 (omega arith)) (z 0 (omega arith)) f))
    (zeros_skipped factor f j row by (λ k h. z (suc k) (omega arith)) (λ k h. p (suc k) (omega arith)))

-- so a row less such a multiple is made from cell j on
pub less_from : (j : ℕ) (by row : List Float) (plain : Bool)
    → let factor = div binary64 (cell j row) (cell j by) in
    plain && is_finite factor ≡ true → Zeros j by → (plain ≡ true → Plain j row)
    → take j row ++ zipped (less_scaled factor) (drop j row) (drop j by) ≡ less_multiple j by row
unfolding less_multiple
less_from j by row plain e z p = go plain (is_finite factor) refl e p
  where
    factor : Float
    factor = div binary64 (cell j row) (cell j by)

    go : (b f : Bool) → is_finite factor ≡ f → b && f ≡ true → (b ≡ true → Plain j row)
        → take j row ++ zipped (less_scaled factor) (drop j row) (drop j by) ≡ zipped (less_scaled factor) row by
    go true true h t q = zeros_skipped factor h j row by z (q refl)
    go true false h t q = absurd (false≢true t)
    go false f h t q = absurd (false≢true t)

-- ---- what is not -0.0 stays so, in every row

less_plain : (factor : Float) (row by : List Float) (k : ℕ) → Sum (cell k row)
    → Sum (cell k (zipped (less_scaled factor) row by))
unfolding zipped
less_plain factor [] by k s = s
less_plain factor (x ∷ row) [] k s = s
less_plain factor (x ∷ row) (y ∷ by) zero s = sub_next x (mul binary64 y factor) s (mul-fits binary64 y factor)
less_plain factor (x ∷ row) (y ∷ by) (suc k) s = less_plain factor row by k s

-- what holds of a row holds of it when the first rows are made anew by what keeps it
first_rows : (P : List Float → Type 0) (g : List Float → List Float) → ((row : List Float) → P row → P (g row))
    → (i : ℕ) (rows : List (List Float)) (r : ℕ) → P (row_of rows r)
    → P (row_of (map g (take i rows) ++ drop i rows) r)
first_rows P g keeps zero rows r p = p
first_rows P g keeps (suc i) [] r p = p
first_rows P g keeps (suc i) (row ∷ rows) zero p = keeps row p
first_rows P g keeps (suc i) (row ∷ rows) (suc r) p = first_rows P g keeps i rows r p

pub cleared_plain : (m n i : ℕ) (flags : List Bool) (rows : List (List Float)) → PlainRows m n flags rows
    → PlainRows m n flags (clear_above n i rows)
unfolding clear_above less_multiple
cleared_plain m n i flags rows p r h f k l = go (ltb j n)
  where
    j : ℕ
    j = leading n (row_of rows i)

    by : List Float
    by = row_of rows i

    go : (b : Bool)
        → Sum
        (cell k
        (row_of
        (elim b as (λ t. List (List Float)) [
          | true ↦ map (less_multiple j by) (take i rows) ++ drop i rows
          | false ↦ rows
        ])
        r))
    go true =
        first_rows (λ row. Sum (cell k row)) (less_multiple j by)
        (λ row s. less_plain (div binary64 (cell j row) (cell j by)) row by k s) i rows r (p r h f k l)
    go false = p r h f k l

-- ---- the flags

both_first : (a b : Bool) → a && b ≡ true → a ≡ true
both_first true b e = refl
both_first false b e = absurd (false≢true e)

both_rest : (a b : Bool) → a && b ≡ true → b ≡ true
both_rest true b e = e
both_rest false b e = absurd (false≢true e)

-- each cell of a row is a value of the format, and passed the test
pub all_plain : (row : List Float) → ((k : ℕ) → T (fits binary64 (cell k row)))
    → list_all not_minus_zero row ≡ true → Plain (length row) row
all_plain [] held e k h = absurd (not-suc-le-zero h)
all_plain (x ∷ row) held e zero h = record { held = held 0; plain = both_first (not_minus_zero x) _ e }
all_plain (x ∷ row) held e (suc k) h =
    all_plain row (λ j. held (suc j)) (both_rest (not_minus_zero x) _ e) k (le_of_suc-le-suc h)

-- of one row more
pub flag_set : (i n : ℕ) (flags : List Bool) (rows : List (List Float)) (b : Bool) → i < length flags
    → PlainRows i n flags rows → (b ≡ true → Plain n (row_of rows i))
    → PlainRows (i + 1) n (set flags i b) rows
flag_set i n flags rows b h p here =
    below_more (λ r. get_or (set flags i b) r false ≡ true → Plain n (row_of rows r)) i
    (λ r l f. p r l (sym (get_or-set_other flags i r b false (λ e. omega arith)) ∙ f))
    (λ f. here (sym (get_or-set_same flags i b false h) ∙ f))

-- a row whose left cells are lent
pub left_plain : (n w i a : ℕ) (cells : List Float) → i < n → n ≤ w → a ≡ i * w
    → let part = take (a + n - a) (drop a cells) in
    length part ≡ n → Plain (length part) part → Plain n (row_of (rows_of w n cells) i)
left_plain n w i a cells h l e len p k m =
    subst Sum
    (ap (cell k) (left_part n w i a cells h l e) ∙ get_or-take n (row_of (rows_of w n cells) i) k nan m)
    (p k (omega arith))

-- the rows before row i, and fewer cells
pub front_plain : (n w i j a : ℕ) (flags : List Bool) (cells : List Float) → i ≤ n → j ≤ n → a ≡ i * w
    → PlainRows n n flags (rows_of w n cells) → PlainRows i j flags (rows_of w i (take a cells))
front_plain n w i j a flags cells h l e p r m f k o =
    let row : row_of (rows_of w n cells) r ≡ row_of (rows_of w i (take a cells)) r =
    sym (get_or-take i (rows_of w n cells) r [] m)
    ∙ ap (λ (rows : List (List Float)). row_of rows r) (sym (front_rows w n i a cells h e)) in
    subst Sum (ap (cell k) row) (p r (omega arith) f k (omega arith))

-- the zeros of a row's left cells, in as much of the row as is lent
pub zeros_lent : (n w j : ℕ) (row : List Float) → n ≤ w → j ≡ leading_zeros (take n row) → j < n → Zeros j (take w row)
zeros_lent n w j row l is lt k h =
    ap is_zero (get_or-take w row k nan (omega arith) ∙ sym (get_or-take n row k nan (omega arith)))
    ∙ leading_zeros_lem (take n row) k (omega arith)

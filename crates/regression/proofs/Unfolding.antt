-- Laws of the unfolding: where the stored cell for a row and a column of the full rows lies, one cell more of a row,
-- and row after row.
use mathlib.Core.Path.{◌≡◌, refl, sym, ap, ◌∙◌}
use mathlib.Core.List.{List, [], ◌++◌}
use Prim.Native.Nat.{ℕ, ◌+◌, ◌-◌, ◌*◌, ◌≤◌, ◌<◌, min, max}
use native.Mathlib.Nat.{le_of_eq}
use native.Mathlib.Numerals.{add-one}
use native.Mathlib.Omega.{arith}
use lib.ListN.{length, get_or, set, take, drop}
use lib.Seq.{get_or-drop, paste, paste-suc, drop-paste}
use lib.Ieee.{Float, nan}
use Rattle.matrix.specs.Rows.{rows_of}
use Rattle.matrix.specs.Lists.{tabulate}
use Rattle.matrix.proofs.Lists.{length_tabulate, get_d_tabulate, overwrite_suc}
use Rattle.elimination.proofs.Rows.{Layout, MadeIn, TurnIn, turn_in, flat_layout}
use Rattle.packed_rows.specs.Falling.{falling_rows, falling_start}
use Rattle.regression.specs.Triangle.{mirrored, unfolded}
use Rattle.packed_rows.proofs.Falling.{row_ends, cell_falling, length_falling, row_falling, falling_rows_lem}
use Rattle.regression.proofs.Triangle.{from_diagonal}

-- the place among the stored cells of that for row j and column k
abbrev pub place_of : (d j k : ℕ) → ℕ
place_of d j k = falling_start (d + 1) (min j k) + (max j k - min j k)

-- up to the diagonal in row k, and from there on in row j
pub place_before : (d j k : ℕ) → k ≤ j → place_of d j k ≡ falling_start (d + 1) k + (j - k)
place_before d j k h =
    let a : min j k ≡ k = omega arith in
    let b : max j k ≡ j = omega arith in
    rw (a, b)

pub place_from_lem : (d j k : ℕ) → j ≤ k → place_of d j k ≡ falling_start (d + 1) j + (k - j)
place_from_lem d j k h =
    let a : min j k ≡ j = omega arith in
    let b : max j k ≡ k = omega arith in
    rw (a, b)

pub place_below : (d j k : ℕ) → j < d → k ≤ d → place_of d j k < falling_start (d + 1) d
place_below d j k h l = omega (arith, row_ends (d + 1) d (min j k) (omega arith))

-- the cell there
place_cell : (d j k : ℕ) (stored : List Float) → j < d → k ≤ d
    → get_or stored (place_of d j k) nan ≡ mirrored (falling_rows (d + 1) d stored) j k
place_cell d j k stored h l =
    sym (cell_falling (d + 1) d (min j k) (max j k - min j k) stored nan (omega arith) (omega arith))

-- the full rows of what is stored, and row j of them
abbrev pub full_rows : (d : ℕ) → List Float → List (List Float)
full_rows d stored = unfolded d (falling_rows (d + 1) d stored)

abbrev pub full_row : (d : ℕ) → List Float → ℕ → List Float
full_row d stored j = tabulate (d + 1) (mirrored (falling_rows (d + 1) d stored) j)

pub row_long : (d : ℕ) (stored : List Float) (j : ℕ) → length (full_row d stored j) ≡ d + 1
row_long d stored j = length_tabulate (d + 1) (mirrored (falling_rows (d + 1) d stored) j)

-- from the diagonal on it is the stored row j
pub stored_row : (d j : ℕ) (stored : List Float) → j < d → length stored ≡ falling_start (d + 1) d
    → take (d + 1 - j) (drop (falling_start (d + 1) j) stored) ≡ drop j (full_row d stored j)
stored_row d j stored h whole =
    sym (row_falling (d + 1) d j stored h)
    ∙ sym
    (from_diagonal d (falling_rows (d + 1) d stored) (length_falling (d + 1) d stored)
    (falling_rows_lem (d + 1) d stored (le_of_eq (sym whole))) j h)

-- one cell more of row j is written over what the row held
pub one_more : (d j k from : ℕ) (stored old row : List Float) → j < d → k ≤ d → length old ≡ d + 1
    → from ≡ place_of d j k
    → row ≡ take k (full_row d stored j) ++ drop k old
    → set row k (get_or stored from nan) ≡ take (k + 1) (full_row d stored j) ++ drop (k + 1) old
one_more d j k from stored old row h l long at e =
    let f : ℕ → Float = mirrored (falling_rows (d + 1) d stored) j in
    let full : List Float = full_row d stored j in
    let read : get_or stored from nan ≡ get_or full k nan =
    ap (λ (i : ℕ). get_or stored i nan) at
    ∙ place_cell d j k stored h l
    ∙ sym (get_d_tabulate (d + 1) f k nan (omega arith)) in
    ap (set row k) read
    ∙ ap (λ (t : List Float). set t k (get_or full k nan)) e
    ∙ overwrite_suc full old k nan (omega (arith, row_long d stored j)) (omega arith)
    ∙ rw (add-one k)

-- one cell more of row j is written among others, from `to` on, where what is stored begins at `split`
pub one_more_among : (d j k split to from : ℕ) (old cells : List Float) → j < d → k ≤ d → to + (d + 1) ≤ split
    → length old ≡ split + falling_start (d + 1) d
    → from ≡ split + place_of d j k
    → cells ≡ paste old to (full_row d (drop split old) j) k
    → set cells (to + k) (get_or cells from nan) ≡ paste old to (full_row d (drop split old) j) (k + 1)
one_more_among d j k split to from old cells h l room whole at e =
    let f : ℕ → Float = mirrored (falling_rows (d + 1) d (drop split old)) j in
    let row : List Float = full_row d (drop split old) j in
    let n : length row ≡ d + 1 = row_long d (drop split old) j in
    let p : from ≡ to + k + (from - (to + k)) = omega arith in
    let rest : drop (to + k) cells ≡ drop (to + k) old =
    ap (drop (to + k)) e ∙ drop-paste old to row k (omega arith) (omega arith) in
    let kept : get_or cells from nan ≡ get_or old from nan =
    ap (λ (i : ℕ). get_or cells i nan) p
    ∙ sym (get_or-drop (to + k) cells (from - (to + k)) nan)
    ∙ ap (λ (t : List Float). get_or t (from - (to + k)) nan) rest
    ∙ get_or-drop (to + k) old (from - (to + k)) nan
    ∙ ap (λ (i : ℕ). get_or old i nan) (sym p) in
    let read : get_or cells from nan ≡ get_or row k nan =
    kept
    ∙ ap (λ (i : ℕ). get_or old i nan) at
    ∙ sym (get_or-drop split old (place_of d j k) nan)
    ∙ place_cell d j k (drop split old) h l
    ∙ sym (get_d_tabulate (d + 1) f k nan (omega arith)) in
    ap (set cells (to + k)) read
    ∙ ap (λ (t : List Float). set t (to + k) (get_or row k nan)) e
    ∙ paste-suc old to row k nan (omega (arith, place_below d j k h l)) (omega arith)
    ∙ rw (add-one k)

-- ---- row after row

-- rows of one width may be made anew in a loop
pub width_layout : {A : Type 0} (w m : ℕ) → Layout {A = A} m (rows_of w m) (λ i. i * w) (λ i. w)
width_layout w m = flat_layout w m

-- the first j full rows are made, whatever was there, and row j begins at `start`
abbrev pub fresh : (d : ℕ) (stored : List Float) → ℕ → List Float → List Float
fresh d stored i row = get_or (full_rows d stored) i []

abbrev pub RowsMade : (d : ℕ) (stored full₀ full : List Float) (start j : ℕ) → Type 0
RowsMade d stored full₀ full start j =
    MadeIn d (rows_of (d + 1) d) (λ i. i * (d + 1)) (fresh d stored) full₀ full start j

pub turn : (d : ℕ) (stored full₀ full : List Float) (start j : ℕ) → RowsMade d stored full₀ full start j → j < d
    → length full₀ ≡ d * (d + 1)
    → TurnIn d (rows_of (d + 1) d) (λ i. i * (d + 1)) (fresh d stored) full₀ full start (d + 1) j
turn d stored full₀ full start j inv h whole =
    turn_in d (rows_of (d + 1) d) (λ i. i * (d + 1)) (λ i. d + 1) (width_layout (d + 1) d) (fresh d stored) full₀ full
    start (d + 1) j inv h whole refl

-- `regression::unfold_row` meets its contract: the first j cells are the column's, and the others the stored row's.
use mathlib.Core.Path.{◌≡◌, ap, ◌∙◌}
use mathlib.Core.List.{List, [], ◌++◌, append-nil}
use Prim.Native.Nat.{ℕ, ◌+◌, ◌-◌, ◌<◌}
use native.Mathlib.Omega.{arith}
use lib.ListN.{length, take, drop, length-take, length-drop, take-append-drop, drop_of_length-le}
use lib.Seq.{take_at, length-take-le}
use lib.Ieee.{Float}
use Rattle.packed_rows.proofs.Falling.{row_ends}
use Rattle.regression.proofs.Unfolding.{full_row, row_long, stored_row}
use Rattle.regression.proofs.unfold_row.Goals as goal

-- the first cells as they are, and the others replaced
whole : (d j : ℕ) (stored old row part : List Float) → j < d → length row ≡ d + 1
    → row ≡ take j (full_row d stored j) ++ drop j old
    → part ≡ drop j (full_row d stored j)
    → take j row ++ (part ++ drop (length row - j) (drop j row)) ≡ full_row d stored j
whole d j stored old row part h long e p =
    let full : List Float = full_row d stored j in
    let n = row_long d stored j in
    let front : take j row ≡ take j full =
    ap (take j) e ∙ take_at (take j full) (drop j old) j (length-take-le j full (omega arith)) in
    let rest : drop (length row - j) (drop j row) ≡ [] =
    drop_of_length-le (drop j row) {i = length row - j} (rw length-drop (omega arith)) in
    rw (front, rest, p, append-nil) (take-append-drop j full)

pub overflow_add-start : goal.overflow_add-start
overflow_add-start c =
    let a = c.args in
    omega (arith, c.unfold_column-start.ensures.value, row_ends (a.d + 1) a.d a.j c.requires.j_lt_d.0)

pub offset_bounds-stored-start : goal.offset_bounds-stored-start
offset_bounds-stored-start c =
    let a = c.args in
    omega (arith, c.unfold_column-start.ensures.value, row_ends (a.d + 1) a.d a.j c.requires.j_lt_d.0)

pub slice_bounds-copy-end-2 : goal.slice_bounds-copy-end-2
slice_bounds-copy-end-2 c =
    let a = c.args in
    omega (arith, c.unfold_column-start.ensures.value, row_ends (a.d + 1) a.d a.j c.requires.j_lt_d.0)

pub copy-requires : goal.copy-requires
copy-requires c =
    let a = c.args in
    let ends = row_ends (a.d + 1) a.d a.j c.requires.j_lt_d.0 in
    simp (length-take, length-drop) (omega (arith, c.unfold_column-start.ensures.value, ends))

pub returns : goal.returns
returns c =
    let a = c.args in
    let column = c.unfold_column-start in
    let k : column.result + (a.d + 1 - a.j) - column.result ≡ a.d + 1 - a.j = omega arith in
    whole a.d a.j a.stored.now a.row.now column.new.row c.copy.new.dst c.requires.j_lt_d.0
    (column.auto.row ∙ c.requires.cells.0) column.ensures.row_after
    (c.copy.ensures
    ∙ rw (k, column.ensures.value) (stored_row a.d a.j a.stored.now c.requires.j_lt_d.0 c.requires.cells.1))

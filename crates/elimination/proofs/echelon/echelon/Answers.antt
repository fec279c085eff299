-- `elimination::echelon::echelon` meets its contract. The loop's invariant: what is left of the columns gives what
-- all of them give; there are at most k pivot rows above, and row h, to which the next one comes, starts at `at_h`.
use mathlib.Core.Path.{◌≡◌, sym, ap, ◌∙◌}
use mathlib.Core.List.{List, []}
use mathlib.Core.Bool.{true, false}
use Prim.Native.Nat.{ℕ, suc, ◌+◌, ◌*◌, ◌≤◌, ◌<◌, ◌-◌}
use native.Mathlib.Omega.{arith}
use native.Mathlib.Numerals.{add-one}
use lib.ListN.{length, get_or, set, length-set}
use lib.Ieee.{Float, nan, eq}
use Rattle.matrix.specs.Rows.{rows_of, flat, swapped, TwoRows}
use Rattle.float.specs.Number.{zero64}
use Rattle.matrix.proofs.Laws.{length_rows_of, get_d_rows_of, rows_of_flat, wide_rows_of, wide_swapped}
use Rattle.elimination.specs.Rows.{row_of}
use Rattle.elimination.specs.Elimination.{cell, pivot_row, clear_below, column_eliminated, echelon_from}
use Rattle.elimination.proofs.Elimination.{pivot_within, column_passed, column_cleared}
use Rattle.elimination.proofs.Rows.{next_start}
use Rattle.elimination.proofs.Shape.{inside, shape_of}
use Rattle.elimination.specs.declared.size.Size.{Size}
use Rattle.elimination.proofs.echelon.echelon.Goals as goal

module _ (n w h k : ℕ) where
  pivot_row_lem : (cells : List Float) → k < n → h ≤ n → pivot_row h k (rows_of w n cells) < n
  pivot_row_lem cells lk lh =
      let many : length (rows_of w n cells) ≡ n = length_rows_of w n cells in
      rw many at (pivot_within h k (rows_of w n cells) (omega arith) (omega arith))

  -- p is the pivot row of column k, and starts at a
  module _ (p a : ℕ) (cells : List Float) (lk : k < n) (lh : h ≤ n) (lw : n ≤ w)
      (is : p ≡ pivot_row h k (rows_of w n cells)) (at : a ≡ p * w) where
    chosen : get_or cells (a + k) nan ≡ cell k (row_of (rows_of w n cells) (pivot_row h k (rows_of w n cells)))
    chosen =
        rw (at, is)
        (sym (get_d_rows_of w n (pivot_row h k (rows_of w n cells)) k cells nan (pivot_row_lem cells lk lh)
        (omega arith)))

    left : n - k ≡ suc (n - (k + 1))
    left = omega arith

    passed : eq (get_or cells (a + k) nan) zero64 ≡ true
        → echelon_from (n - (k + 1)) (k + 1) h (rows_of w n cells) ≡ echelon_from (n - k) k h (rows_of w n cells)
    passed e = rw (left, add-one k) (sym (column_passed (n - suc k) k h (rows_of w n cells) (rw chosen at e)))

    found : (others : List Float) → eq (get_or cells (a + k) nan) zero64 ≡ false
        → rows_of w n others ≡ clear_below h k (swapped h p (rows_of w n cells))
        → echelon_from (n - (k + 1)) (k + 1) (h + 1) (rows_of w n others) ≡ echelon_from (n - k) k h (rows_of w n cells)
    unfolding column_eliminated
    found others e r =
        rw (left, r, is, add-one k, add-one h)
        (sym (column_cleared (n - suc k) k h (rows_of w n cells) (rw chosen at e)))

-- the rows of two that were exchanged
swapped_rows : (w n h i : ℕ) (cells : List Float) → h < n → i < n → length cells ≡ n * w
    → rows_of w n (flat (swapped h i (rows_of w n cells))) ≡ swapped h i (rows_of w n cells)
swapped_rows w n h i cells lh li e =
    let rows : List (List Float) = rows_of w n cells in
    let many : length rows ≡ n = length_rows_of w n cells in
    let len : length (swapped h i rows) ≡ n =
    length-set (set rows h (get_or rows i [])) i (get_or rows h []) ∙ length-set rows h (get_or rows i []) ∙ many in
    ap (λ (m : ℕ). rows_of w m (flat (swapped h i rows))) (sym len)
    ∙ rows_of_flat w (swapped h i rows)
    (wide_swapped w h i rows (wide_rows_of w n cells (omega arith)) (omega arith) (omega arith))

-- the pivot row that was found is a row
pivot_place : (n w h k p : ℕ) (cells : List Float) → k < n → h ≤ n → p ≡ pivot_row h k (rows_of w n cells) → p < n
pivot_place n w h k p cells lk lh e = let r = pivot_row_lem n w h k cells lk lh in omega (arith, r, e)

-- row h and the pivot row p, by their starts
abbrev two_rows : (n w h p a b : ℕ) (cells : List Float) → length cells ≡ n * w → h < n → a ≡ h * w → p < n → b ≡ p * w
    → TwoRows w a b (length cells)
two_rows n w h p a b cells e lh ea lp eb =
    record { rows = n; i = h; j = p; count = e; first = (lh, ea); second = (lp, eb) }

-- the row that `pivot` found is one
abbrev found_row : (s : Size) (h k p : ℕ) (cells : List Float) → k < s.n → h ≤ k
    → p ≡ pivot_row h k (rows_of s.w s.n cells) → p < s.n
found_row s h k p cells t l e = pivot_place s.n s.w h k p cells t (omega arith) e

pub loop-k-preserved-then-cells-at_i : goal.loop-k-preserved-then-cells-at_i
loop-k-preserved-then-cells-at_i c =
    let l = c.loop-k in
    let s = c.args.size in (
      omega arith,
      l.invariant.1,
      passed s.n s.w l.h l.k c.pivot-i.result c.cell_count-at_i.result l.cells c.loop-k-test.true (omega arith)
          s.left c.pivot-i.ensures c.cell_count-at_i.ensures c.if-cells-at_i.true
          ∙ l.invariant.2,
    )

pub loop-k-preserved : goal.loop-k-preserved
loop-k-preserved c =
    let b = c.clear_below in
    let x = c.swap_rows_at in
    let l = c.loop-k in
    let s = c.args.size in
    let n : ℕ = s.n in
    let w : ℕ = s.w in
    let t : l.k < n = c.loop-k-test.true in
    let i : ℕ = c.pivot-i.result in
    let old : List (List Float) = rows_of w n l.cells in
    let row = found_row s l.h l.k i l.cells t l.invariant.0 c.pivot-i.ensures in
    let two =
    two_rows n w l.h i l.at_h c.cell_count-at_i.result l.cells (l.auto.cells ∙ c.requires) (omega (arith, t))
    l.invariant.1 row c.cell_count-at_i.ensures in
    let exchanged : rows_of w n x.new.cells ≡ swapped l.h i old =
    ap (rows_of w n) (x.ensures two)
    ∙ swapped_rows w n l.h i l.cells (omega arith) row (l.auto.cells ∙ c.requires) in
    let rows : rows_of w n b.new.cells ≡ clear_below l.h l.k (swapped l.h i old) =
    b.ensures ∙ ap (clear_below l.h l.k) exchanged in (
      omega arith,
      next_start l.at_h l.h w l.invariant.1,
      found n w l.h l.k i c.cell_count-at_i.result l.cells t (omega arith) s.left
          c.pivot-i.ensures c.cell_count-at_i.ensures b.new.cells
          c.if-cells-at_i.false rows
          ∙ l.invariant.2,
    )

pub returns : goal.returns
unfolding echelon_from
returns c =
    let e : c.args.size.n - c.loop-k.k ≡ 0 = omega arith in
    rw e at c.loop-k.invariant.2

pub overflow_add-at_i : goal.overflow_add-at_i
overflow_add-at_i c =
    let s = c.args.size in
    let l = c.loop-k in
    let row = found_row s l.h l.k c.pivot-i.result l.cells c.loop-k-test.true l.invariant.0 c.pivot-i.ensures in
    let within = inside (shape_of s c.args.cells.now c.requires) c.pivot-i.result row in
    omega (arith, within, s.left, c.cell_count-at_i.ensures)

pub offset_bounds-cells-at_i : goal.offset_bounds-cells-at_i
offset_bounds-cells-at_i c =
    let s = c.args.size in
    let l = c.loop-k in
    let row = found_row s l.h l.k c.pivot-i.result l.cells c.loop-k-test.true l.invariant.0 c.pivot-i.ensures in
    let within = inside (shape_of s c.args.cells.now c.requires) c.pivot-i.result row in
    omega (arith, within, s.left, c.cell_count-at_i.ensures)

pub bounds-cells-at_i : goal.bounds-cells-at_i
bounds-cells-at_i c =
    let s = c.args.size in
    let l = c.loop-k in
    let row = found_row s l.h l.k c.pivot-i.result l.cells c.loop-k-test.true l.invariant.0 c.pivot-i.ensures in
    let within = inside (shape_of s c.args.cells.now c.requires) c.pivot-i.result row in
    omega (arith, within, s.left, c.cell_count-at_i.ensures, l.auto.cells)

pub cell_count-at_i-requires : goal.cell_count-at_i-requires
cell_count-at_i-requires c =
    let s = c.args.size in
    let l = c.loop-k in
    let row = found_row s l.h l.k c.pivot-i.result l.cells c.loop-k-test.true l.invariant.0 c.pivot-i.ensures in
    let within = inside (shape_of s c.args.cells.now c.requires) c.pivot-i.result row in
    (omega (arith, row, s.order), omega (arith, s.wide), omega (arith, within))

pub swap_rows_at-requires : goal.swap_rows_at-requires
swap_rows_at-requires c =
    let s = c.args.size in
    let l = c.loop-k in
    let row = found_row s l.h l.k c.pivot-i.result l.cells c.loop-k-test.true l.invariant.0 c.pivot-i.ensures in
    two_rows s.n s.w l.h c.pivot-i.result l.at_h c.cell_count-at_i.result l.cells (l.auto.cells ∙ c.requires)
    (omega arith) l.invariant.1 row c.cell_count-at_i.ensures

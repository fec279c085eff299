-- `regression::unfold_column` meets its contract. The loop's invariant: the first k cells of the full row are written,
-- and the stored row k starts at `start`.
use mathlib.Core.Path.{◌≡◌, refl, ap, ◌∙◌}
use mathlib.Core.List.{◌++◌}
use Prim.Native.Nat.{ℕ, ◌+◌, ◌-◌, ◌≤◌, ◌<◌}
use native.Mathlib.Numerals.{add-one}
use native.Mathlib.Omega.{arith}
use lib.ListN.{length, take, drop}
use Rattle.packed_rows.specs.Falling.{falling_start}
use Rattle.packed_rows.proofs.Falling.{start_next}
use Rattle.regression.proofs.Unfolding.{place_of, place_before, place_below, full_row, one_more}
use Rattle.regression.proofs.unfold_column.Goals as goal

pub loop-k-init : goal.loop-k-init
unfolding falling_start
loop-k-init c = (refl, refl)

-- the cell that a turn reads is a stored one
at : (d j k start : ℕ) → k ≤ j → start ≡ falling_start (d + 1) k → start + (j - k) ≡ place_of d j k
at d j k start h e = omega (arith, e, place_before d j k h)

below : (d j k start n : ℕ) → j < d → k ≤ j → start ≡ falling_start (d + 1) k → n ≡ falling_start (d + 1) d
    → start + (j - k) < n
below d j k start n l h e whole = omega (arith, place_below d j k l (omega arith), at d j k start h e)

pub overflow_add-row : goal.overflow_add-row
overflow_add-row c =
    let a = c.args in
    let l = c.loop-k in
    let p =
    below a.d a.j l.k l.start (length a.stored.now) c.requires.j_lt_d.0 (omega arith) l.invariant.0
    c.requires.cells.1 in
    omega arith

pub offset_bounds-stored-start : goal.offset_bounds-stored-start
offset_bounds-stored-start c =
    let a = c.args in
    let l = c.loop-k in
    let p =
    below a.d a.j l.k l.start (length a.stored.now) c.requires.j_lt_d.0 (omega arith) l.invariant.0
    c.requires.cells.1 in
    omega arith

pub bounds-stored-start : goal.bounds-stored-start
bounds-stored-start c =
    let a = c.args in
    let l = c.loop-k in
    below a.d a.j l.k l.start (length a.stored.now) c.requires.j_lt_d.0 (omega arith) l.invariant.0
    c.requires.cells.1

pub overflow_add-start-in-loop-k : goal.overflow_add-start-in-loop-k
overflow_add-start-in-loop-k c =
    let a = c.args in
    let l = c.loop-k in
    let p =
    below a.d a.j l.k l.start (length a.stored.now) c.requires.j_lt_d.0 (omega arith) l.invariant.0
    c.requires.cells.1 in
    omega arith

pub loop-k-preserved : goal.loop-k-preserved
loop-k-preserved c =
    let l = c.loop-k in
    let a = c.args in
    let next : falling_start (a.d + 1) (l.k + 1) ≡ falling_start (a.d + 1) l.k + (a.d + 1 - l.k) =
    rw (add-one l.k) (start_next (a.d + 1) l.k) in (
      omega (arith, l.invariant.0, next),
      one_more a.d a.j l.k (l.start + (a.j - l.k)) a.stored.now a.row.now l.row c.requires.j_lt_d.0 (omega arith)
          c.requires.cells.0 (at a.d a.j l.k l.start (omega arith) l.invariant.0) l.invariant.1,
    )

pub returns : goal.returns
returns c =
    let l = c.loop-k in
    let a = c.args in
    let e : l.k ≡ a.j = omega arith in record {
      value = l.invariant.0 ∙ ap (falling_start (a.d + 1)) e;
      row_after = l.invariant.1 ∙ ap (λ (n : ℕ). take n (full_row a.d a.stored.now a.j) ++ drop n a.row.now) e;
    }

-- `regression::unfold` meets its contract. The loop's invariant: the first j full rows are written (`RowsMade`), and
-- `start` is row j's first cell.
use mathlib.Core.Path.{◌≡◌, refl, sym, ap, ◌∙◌}
use mathlib.Core.List.{List, []}
use Prim.Native.Nat.{◌+◌}
use native.Mathlib.Nat.{zero-mul}
use native.Mathlib.Omega.{arith}
use lib.Ieee.{Float}
use Rattle.matrix.specs.Rows.{rows_of, flat}
use Rattle.matrix.proofs.Lists.{get_d_tabulate}
use Rattle.matrix.proofs.Laws.{length_rows_of, flat_rows_of_all}
use Rattle.elimination.proofs.Made.{made_none, made_copy}
use Rattle.regression.specs.Triangle.{unfolded}
use Rattle.regression.proofs.Triangle.{length_unfolded}
use Rattle.regression.proofs.Unfolding.{full_rows, full_row, turn}
use Rattle.regression.proofs.unfold.Goals as goal

pub loop-j-init : goal.loop-j-init
loop-j-init c = (omega arith, sym (zero-mul _), made_none _ _, refl)

pub overflow_add-end : goal.overflow_add-end
overflow_add-end c =
    let l = c.loop-j in
    let a = c.args in
    let t = turn a.d a.stored.now a.full.now l.full l.start l.j l.invariant (omega arith) c.requires.cells.0 in
    omega (arith, t.fits)

pub offset_bounds-full-start : goal.offset_bounds-full-start
offset_bounds-full-start c =
    let l = c.loop-j in
    let a = c.args in
    let t = turn a.d a.stored.now a.full.now l.full l.start l.j l.invariant (omega arith) c.requires.cells.0 in
    omega (arith, t.fits)

pub slice_bounds-unfold_row-end : goal.slice_bounds-unfold_row-end
slice_bounds-unfold_row-end c =
    let l = c.loop-j in
    let a = c.args in
    let t = turn a.d a.stored.now a.full.now l.full l.start l.j l.invariant (omega arith) c.requires.cells.0 in
    omega (arith, t.fits)

pub unfold_row-requires : goal.unfold_row-requires
unfold_row-requires c =
    let l = c.loop-j in
    let a = c.args in
    let t = turn a.d a.stored.now a.full.now l.full l.start l.j l.invariant (omega arith) c.requires.cells.0 in
    record { j_lt_d = (omega arith, c.requires.d_le_max_order); cells = (t.part, c.requires.cells.1) }

pub loop-j-preserved : goal.loop-j-preserved
unfolding unfolded
loop-j-preserved c =
    let l = c.loop-j in
    let a = c.args in
    let t = turn a.d a.stored.now a.full.now l.full l.start l.j l.invariant (omega arith) c.requires.cells.0 in
    let done = c.unfold_row in
    t.next done.new.row done.auto.row
    (done.ensures ∙ sym (get_d_tabulate a.d (full_row a.d a.stored.now) l.j [] (omega arith)))

pub returns : goal.returns
returns c =
    let l = c.loop-j in
    let a = c.args in
    let d = a.d in
    let rows : List (List Float) = full_rows d a.stored.now in
    let n = length_unfolded d _ in
    let all : rows_of (d + 1) d l.full ≡ rows =
    l.invariant.2
    ∙ made_copy rows [] l.j (rows_of (d + 1) d a.full.now) (length_rows_of (d + 1) d a.full.now ∙ sym n)
    (simp length_rows_of (omega arith)) in
    sym (flat_rows_of_all (d + 1) d l.full (l.invariant.3 ∙ c.requires.cells.0)) ∙ ap flat all

-- `elimination::reduced::backfill` meets its contract. The loop's invariant: what is left of the rows, from row i - 1
-- up, gives what all of them give; row i starts at `at`, and past the last row the cells end; the flags stay true.
use mathlib.Core.Path.{◌≡◌, sym, ap, ◌∙◌}
use mathlib.Core.List.{List}
use Prim.Native.Nat.{ℕ, suc, ◌<◌, ◌-◌}
use native.Mathlib.Omega.{arith}
use lib.Ieee.{Float}
use Rattle.matrix.specs.Rows.{rows_of}
use Rattle.matrix.proofs.Laws.{length_rows_of}
use Rattle.elimination.specs.Elimination.{clear_above, backfill_from}
use Rattle.elimination.proofs.Plain.{cleared_plain}
use Rattle.elimination.proofs.Rows.{previous_start}
use Rattle.elimination.proofs.reduced.backfill.Goals as goal

row_used : (n i : ℕ) (rows new : List (List Float)) → 0 < i → new ≡ clear_above n (i - 1) rows
    → backfill_from n (i - 1) new ≡ backfill_from n i rows
unfolding backfill_from
row_used n i rows new h e =
    let one : suc (i - 1) ≡ i = omega arith in
    ap (backfill_from n (i - 1)) e ∙ ap (λ (m : ℕ). backfill_from n m rows) one

pub loop-i-preserved : goal.loop-i-preserved
loop-i-preserved c =
    let l = c.loop-i in
    let n = c.args.size.n in
    let w = c.args.size.w in
    let rows = rows_of w n l.cells in (
      (previous_start l.at l.i w c.loop-i-test.true l.invariant.0).1,
      row_used n l.i rows (rows_of w n c.clear_above.new.cells) c.loop-i-test.true c.clear_above.ensures
          ∙ l.invariant.1,
      rw c.clear_above.ensures (cleared_plain n n (l.i - 1) c.plain_rows-plain.result rows l.invariant.2),
    )

pub returns : goal.returns
unfolding backfill_from
returns c =
    let e : c.loop-i.i ≡ 0 = omega arith in
    rw e at c.loop-i.invariant.1

pub loop-i-init : goal.loop-i-init
loop-i-init c =
    let n = c.args.size.n in
    let rows = rows_of c.args.size.w n c.args.cells.now in (
      c.requires,
      ap (λ (m : ℕ). backfill_from n m rows) (sym (length_rows_of c.args.size.w n c.args.cells.now)),
      c.plain_rows-plain.ensures,
    )

-- `packed_rows::add_runs` meets its contract. The loop's invariant: what is left to add to what is there gives what
-- all the rows give.
use mathlib.Core.Path.{sym, ap, ◌∙◌}
use mathlib.Core.List.{List}
use Prim.Native.Nat.{suc}
use native.Mathlib.Numerals.{add-one}
use native.Mathlib.Omega.{arith}
use lib.ListN.{drop, drop_of_length-le}
use lib.Seq.{drop-cons}
use lib.Ieee.{nan}
use Rattle.packed_rows.specs.Added.{runs_added}
use Rattle.packed_rows.specs.declared.Row.{Row}
use Rattle.packed_rows.proofs.add_runs.Goals as goal

abbrev no_row : Row
no_row = record { base = 0; factor = nan }

pub add_run-requires : goal.add_run-requires
add_run-requires c =
    (c.requires.run_long, omega (arith, c.requires.in_bounds c.loop-row.row-index no_row c.loop-row-test.true))

pub loop-row-preserved : goal.loop-row-preserved
loop-row-preserved c =
    let l = c.loop-row in
    let rows = c.args.rows.now in
    rw (add-one l.row-index)
    (ap (runs_added (drop (suc l.row-index) rows) c.args.k c.args.values.now) c.add_run.ensures
    ∙ sym
    (ap (λ (rs : List Row). runs_added rs c.args.k c.args.values.now l.acc)
    (drop-cons rows l.row-index no_row c.loop-row-test.true))
    ∙ l.invariant)

pub returns : goal.returns
returns c =
    let l = c.loop-row in
    ap (λ (rs : List Row). runs_added rs c.args.k c.args.values.now l.acc)
    (sym (drop_of_length-le c.args.rows.now {i = l.row-index} c.loop-row-test.false))
    ∙ l.invariant

-- `packed_rows::add_column` meets its contract. The loop's invariant: what is left to add to what is there gives what
-- all the rows give.
use mathlib.Core.Path.{sym, ap, ◌∙◌}
use mathlib.Core.List.{List}
use Prim.Native.Nat.{suc}
use native.Mathlib.Numerals.{add-one}
use native.Mathlib.Omega.{arith}
use lib.ListN.{drop, drop_of_length-le}
use lib.Seq.{drop-cons}
use lib.Ieee.{nan}
use Rattle.packed_rows.specs.Added.{column_added}
use Rattle.packed_rows.specs.declared.Row.{Row}
use Rattle.packed_rows.proofs.add_column.Goals as goal

abbrev no_row : Row
no_row = record { base = 0; factor = nan }

pub add_cell-requires : goal.add_cell-requires
add_cell-requires c = omega (arith, c.requires c.loop-row.row-index no_row c.loop-row-test.true)

pub loop-row-preserved : goal.loop-row-preserved
loop-row-preserved c =
    let l = c.loop-row in
    let rows = c.args.rows.now in
    rw (add-one l.row-index)
    (ap (column_added (drop (suc l.row-index) rows) c.args.k c.args.v) c.add_cell.ensures
    ∙ sym
    (ap (λ (rs : List Row). column_added rs c.args.k c.args.v l.acc)
    (drop-cons rows l.row-index no_row c.loop-row-test.true))
    ∙ l.invariant)

pub returns : goal.returns
returns c =
    let l = c.loop-row in
    ap (λ (rs : List Row). column_added rs c.args.k c.args.v l.acc)
    (sym (drop_of_length-le c.args.rows.now {i = l.row-index} c.loop-row-test.false))
    ∙ l.invariant

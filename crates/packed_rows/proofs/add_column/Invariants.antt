-- `packed_rows::add_column` meets its contract. The loop's invariant: what is left to add to what is there gives what
-- all the rows give.
use mathlib.Core.Path.{◌≡◌}
use lib.ListN.{drop}
use Rattle.packed_rows.specs.Added.{column_added}
use Rattle.packed_rows.proofs.add_column.Given as goal

abbrev pub invariant-loop-row : goal.invariant-loop-row
invariant-loop-row l =
    column_added (drop l.row-index l.rows) l.k l.v l.acc ≡ column_added l.rows l.k l.v l.initial.acc

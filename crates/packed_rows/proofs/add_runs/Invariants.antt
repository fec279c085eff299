-- `packed_rows::add_runs` meets its contract. The loop's invariant: what is left to add to what is there gives what all
-- the rows give.
use mathlib.Core.Path.{◌≡◌}
use lib.ListN.{drop}
use Rattle.packed_rows.specs.Added.{runs_added}
use Rattle.packed_rows.proofs.add_runs.Given as goal

abbrev pub invariant-loop-row : goal.invariant-loop-row
invariant-loop-row l =
    runs_added (drop l.row-index l.rows) l.k l.values l.acc ≡ runs_added l.rows l.k l.values l.initial.acc

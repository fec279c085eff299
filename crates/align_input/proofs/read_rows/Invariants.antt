-- `align_input::read_rows` meets its contract. The loop's invariant: counting and storing the rows that are left
-- gives what counting and storing all of them gives, in the slices that were lent.
use Rattle.std.proofs.Common.{◌≡◌, ◌-◌, ◌≤◌, length, drop}
use Rattle.align_input.specs.Parse.{rows_of}
use Rattle.align_input.specs.Columns.{held_rows, SameNames, Same}
use Rattle.align_input.proofs.Rows.{count_from, storing}
use Rattle.align_input.proofs.read_rows.Given as goal

abbrev pub invariant-loop-next : goal.invariant-loop-next
invariant-loop-next l =
    record {
      within : l.rows ≤ l.next;
      count : count_from l.rows (rows_of (drop l.next l.input)) ≡ count_from 0 (rows_of (drop l.at l.input));
      same : SameNames l.initial.columns l.columns;
      lengths : Same (held_rows l.initial.columns) (held_rows l.columns);
      store : storing (held_rows l.columns) l.rows (rows_of (drop l.next l.input)) ≡ storing (held_rows l.initial.columns) 0 (rows_of (drop l.at l.input));
    }

abbrev pub decreases-loop-next : goal.decreases-loop-next
decreases-loop-next l = length l.input - l.next

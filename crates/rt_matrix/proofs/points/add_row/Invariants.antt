-- The loop's invariant: the first f files' states are done (`up_to f`), and the others are as they were.
use mathlib.Core.Path.{◌≡◌}
use Rattle.rt_matrix.specs.Cells.{shares_of, at_cell}
use Rattle.rt_matrix.proofs.Lists.{up_to}
use Rattle.rt_matrix.proofs.points.add_row.Given as goal

abbrev pub invariant-loop-f : goal.invariant-loop-f
invariant-loop-f g l =
    l.states ≡ up_to (at_cell g.T.Gather.step l.y) l.f l.initial.states (shares_of l.max l.row)

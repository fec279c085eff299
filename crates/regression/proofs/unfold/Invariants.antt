-- `regression::unfold` meets its contract. The loop's invariant: the first j full rows are written (`RowsMade`), and
-- `start` is row j's first cell.
use Rattle.regression.proofs.Unfolding.{RowsMade}
use Rattle.regression.proofs.unfold.Given as goal

abbrev pub invariant-loop-j : goal.invariant-loop-j
invariant-loop-j l = RowsMade l.d l.stored l.initial.full l.full l.start l.j

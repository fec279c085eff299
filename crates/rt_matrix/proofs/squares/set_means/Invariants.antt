-- The loop's invariant: the first f means are set (`up_to f`).
use mathlib.Core.Path.{◌≡◌}
use Rattle.rt_matrix.specs.Cells.{with_mean}
use Rattle.rt_matrix.proofs.Lists.{up_to}
use Rattle.rt_matrix.proofs.squares.set_means.Given as goal

abbrev pub invariant-loop-f : goal.invariant-loop-f
invariant-loop-f l = l.squares ≡ up_to with_mean l.f l.initial.squares l.sums

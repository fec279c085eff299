-- `elimination::reduced::cell_solved` meets its contract, by the tests on each way.
use mathlib.Core.Path.{refl}
use lib.Ieee.{of_bits, round}
use Rattle.elimination.proofs.reduced.cell_solved.Goals as goal

pub returns-then-x : goal.returns-then-x
unfolding of_bits round
returns-then-x c = rw (c.if-diagonal.true, c.if-x.true) refl

pub returns-else-diagonal : goal.returns-else-diagonal
unfolding of_bits round
returns-else-diagonal c = rw c.if-diagonal.false refl

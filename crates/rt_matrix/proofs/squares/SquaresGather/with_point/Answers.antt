-- `Squares::with_point` meets its contract: its steps are the definition's.
use mathlib.Core.Path.{refl}
use Rattle.rt_matrix.specs.Cells.{add_square}
use Rattle.rt_matrix.proofs.squares.SquaresGather.with_point.Goals as goal

pub returns : goal.returns
unfolding add_square
returns c = refl

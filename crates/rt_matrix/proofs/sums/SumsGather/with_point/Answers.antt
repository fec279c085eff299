-- `Sums::with_point` meets its contract: its steps are the definition's.
use mathlib.Core.Path.{refl}
use Rattle.rt_matrix.specs.Cells.{add_point}
use Rattle.rt_matrix.proofs.sums.SumsGather.with_point.Goals as goal

pub returns : goal.returns
unfolding add_point
returns c = refl

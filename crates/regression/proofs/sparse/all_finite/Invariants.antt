-- `regression::sparse::all_finite` meets its contract. The loop's invariant: all cells are finite where the flag
-- says so and those from the index on are.
use mathlib.Core.Path.{◌≡◌}
use mathlib.Core.Bool.{◌&&◌}
use lib.ListN.{drop}
use Rattle.float.specs.Value.{is_finite}
use Rattle.status.specs.Checks.{every}
use Rattle.regression.specs.Sparse.{all_finite}
use Rattle.regression.proofs.sparse.all_finite.Given as goal

abbrev pub invariant-loop-cell : goal.invariant-loop-cell
invariant-loop-cell l = all_finite l.cells ≡ l.finite && every is_finite (drop l.cell-index l.cells)

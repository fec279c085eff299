-- `regression::sum_products` meets its contract. The loop's invariant: the sum so far with the products of the columns
-- left is the whole sum.
use mathlib.Core.Path.{◌≡◌}
use mathlib.Core.List.{zip_with}
use lib.ListN.{drop}
use lib.Ieee.{binary64, mul}
use Rattle.float.specs.Number.{sum_from}
use Rattle.regression.specs.Regression.{dot}
use Rattle.regression.proofs.sum_products.Given as goal

abbrev pub invariant-loop-k : goal.invariant-loop-k
invariant-loop-k l = sum_from l.sum (zip_with (mul binary64) (drop l.k l.row) (drop l.k l.beta)) ≡ dot l.row l.beta

-- `regression::r2` meets its contract: the count as an f64, and the one NaN, are what `float` says.
use lib.Ieee.{of_bits}
use Rattle.regression.specs.Regression.{r2_of}
use Rattle.regression.proofs.r2.Goals as goal

pub returns : goal.returns
unfolding of_bits r2_of
returns c = rw c.u32_to_f64-nf.ensures at c.canonical64.ensures

-- `regression::sparse::columns` meets its contract: x == 0.0 is what a zero answers.
use mathlib.Core.Path.{sym, ◌∙◌}
use Prim.Native.Nat.{◌≤◌}
use native.Mathlib.Omega.{arith}
use lib.Ieee.{of_bits}
use Rattle.float.proofs.Zeros.{is_zero_lem}
use Rattle.regression.proofs.sparse.columns.Goals as goal

pub returns-then-target : goal.returns-then-target
unfolding of_bits
returns-then-target c = rw (sym (is_zero_lem c.args.target) ∙ c.if-target.true) (omega arith)

pub overflow_sub-result : goal.overflow_sub-result
unfolding of_bits
overflow_sub-result c =
    let some : 1 ≤ c.args.n = rw (sym (is_zero_lem c.args.target) ∙ c.if-target.false) at c.requires in
    omega arith

pub returns : goal.returns
unfolding of_bits
returns c = rw (sym (is_zero_lem c.args.target) ∙ c.if-target.false) (omega arith)

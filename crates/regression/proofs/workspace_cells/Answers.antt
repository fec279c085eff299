-- `regression::workspace_cells` meets its contract: a system, half of one, and a cell for each row.
use Prim.Native.Nat.{◌+◌}
use native.Mathlib.Nat.{mul-le-mul_right}
use native.Mathlib.Omega.{arith}
use Rattle.regression.proofs.workspace_cells.Goals as goal

pub overflow_add-result : goal.overflow_add-result
overflow_add-result c =
    let d = c.args.d in
    omega (arith, c.system_length-system.ensures, mul-le-mul_right {m = d} {n = 100} (d + 1) c.requires)

pub overflow_add-result-2 : goal.overflow_add-result-2
overflow_add-result-2 c =
    let d = c.args.d in
    omega (arith, c.system_length-system.ensures, mul-le-mul_right {m = d} {n = 100} (d + 1) c.requires)

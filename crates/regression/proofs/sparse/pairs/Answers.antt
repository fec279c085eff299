-- `regression::sparse::pairs` meets its contract: the product is at most 100 × 101.
use Prim.Native.Nat.{ℕ, ◌+◌, ◌*◌, ◌≤◌}
use native.Mathlib.Nat.{mul-le-mul_right}
use native.Mathlib.Omega.{arith}
use Rattle.regression.proofs.sparse.pairs.Goals as goal

product : (n : ℕ) → n ≤ 100 → n * (n + 1) ≤ 10100
product n h = omega (arith, mul-le-mul_right {m = n} {n = 100} (n + 1) h)

pub overflow_mul-result : goal.overflow_mul-result
overflow_mul-result c = omega (arith, product c.args.n (omega arith))

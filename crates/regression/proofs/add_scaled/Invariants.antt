-- `regression::add_scaled` meets its contract. The loop's invariant: the first k cells are made anew (`made k`).
use mathlib.Core.Path.{◌≡◌}
use lib.ListN.{get_or}
use lib.Ieee.{nan}
use Rattle.packed_rows.specs.Added.{plus_scaled}
use Rattle.elimination.proofs.Made.{made}
use Rattle.regression.proofs.add_scaled.Given as goal

abbrev pub invariant-loop-k : goal.invariant-loop-k
invariant-loop-k l = l.dst ≡ made (λ i x. plus_scaled l.factor x (get_or l.src i nan)) l.k l.initial.dst

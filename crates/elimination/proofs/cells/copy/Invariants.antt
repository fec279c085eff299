-- `elimination::cells::copy` meets its contract. The loop's invariant: the first j cells are made anew (`made j`).
use mathlib.Core.Path.{◌≡◌}
use lib.ListN.{get_or}
use lib.Ieee.{nan}
use Rattle.elimination.proofs.Made.{made}
use Rattle.elimination.proofs.cells.copy.Given as goal

abbrev pub invariant-loop-j : goal.invariant-loop-j
invariant-loop-j l = l.dst ≡ made (λ i x. get_or l.src i nan) l.j l.initial.dst

-- `elimination::row::divide` meets its contract. The loop's invariant: the cells before the index are made anew
-- (`made`).
use mathlib.Core.Path.{◌≡◌}
use Rattle.elimination.specs.Elimination.{divided_by}
use Rattle.elimination.proofs.Made.{made}
use Rattle.elimination.proofs.row.divide.Given as goal

abbrev pub invariant-loop-cell : goal.invariant-loop-cell
invariant-loop-cell l = l.dst ≡ made (λ i. divided_by l.x) l.cell-index l.initial.dst

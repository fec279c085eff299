-- `elimination::row::divide` meets its contract. The loop's invariant: the cells before the index are made anew
-- (`made`).
use mathlib.Core.Path.{◌∙◌}
use native.Mathlib.Omega.{arith}
use native.Mathlib.Numerals.{add-one}
use lib.Ieee.{nan}
use Rattle.elimination.proofs.Made.{made_none, made_suc, made_map}
use Rattle.elimination.proofs.row.divide.Goals as goal

pub loop-cell-preserved : goal.loop-cell-preserved
loop-cell-preserved c = rw (c.loop-cell.invariant, add-one) (made_suc _ _ _ nan)

pub returns : goal.returns
returns c = c.loop-cell.invariant ∙ made_map _ _ _ (omega arith)

pub loop-cell-init : goal.loop-cell-init
loop-cell-init c = made_none _ _

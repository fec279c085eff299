-- `elimination::cells::copy` meets its contract. The loop's invariant: the first j cells are made anew (`made j`).
use mathlib.Core.Path.{◌∙◌}
use native.Mathlib.Omega.{arith}
use native.Mathlib.Numerals.{add-one}
use lib.Ieee.{nan}
use Rattle.elimination.proofs.Made.{made_none, made_suc, made_copy}
use Rattle.elimination.proofs.cells.copy.Goals as goal

pub loop-j-preserved : goal.loop-j-preserved
loop-j-preserved c = rw (c.loop-j.invariant, add-one) (made_suc _ _ _ nan)

pub returns : goal.returns
returns c = c.loop-j.invariant ∙ made_copy _ _ _ _ c.requires (omega arith)

pub loop-j-init : goal.loop-j-init
loop-j-init c = made_none _ _

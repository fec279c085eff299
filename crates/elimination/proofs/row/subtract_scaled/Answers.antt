-- `elimination::row::subtract_scaled` meets its contract. The loop's invariant: the first j cells are made anew
-- (`made j`).
use mathlib.Core.Path.{◌∙◌}
use native.Mathlib.Omega.{arith}
use native.Mathlib.Numerals.{add-one}
use lib.Ieee.{nan}
use Rattle.elimination.proofs.Made.{made_none, made_suc, made_zipped}
use Rattle.elimination.proofs.row.subtract_scaled.Goals as goal

pub loop-j-preserved : goal.loop-j-preserved
loop-j-preserved c = rw (c.loop-j.invariant, add-one) (made_suc _ _ _ nan)

pub returns : goal.returns
returns c = c.loop-j.invariant ∙ made_zipped _ nan _ _ _ c.requires (omega arith)

pub loop-j-init : goal.loop-j-init
loop-j-init c = made_none _ _

-- `regression::add_scaled` meets its contract. The loop's invariant: the first k cells are made anew (`made k`).
use mathlib.Core.Path.{◌∙◌}
use native.Mathlib.Omega.{arith}
use native.Mathlib.Numerals.{add-one}
use borrow.Author.Rules.{rules}
use lib.Ieee.{nan}
use Rattle.elimination.proofs.Made.{made_none, made_suc, made_zipped}
use Rattle.regression.proofs.add_scaled.Goals as goal

pub loop-k-init : goal.loop-k-init
loop-k-init c = made_none _ _

pub loop-k-preserved : goal.loop-k-preserved
loop-k-preserved c = rw (c.loop-k.invariant, add-one) (made_suc _ _ _ nan)

pub returns : goal.returns
returns c = c.loop-k.invariant ∙ made_zipped _ nan _ _ _ (search rules) (omega arith)

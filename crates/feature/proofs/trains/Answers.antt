-- `feature::trains` meets its contract: a label's bits are 1 where the label is.
use mathlib.Core.Path.{◌≡◌, refl}
use mathlib.Core.Bool.{true, false}
use native.Mathlib.Omega.{arith}
use lib.IntN.{ℤ, pos, negsuc}
use mir.Syntax.{w32}
use mir.Val.{of_z, SFits}
use borrow.Author.Rules.{rules}
use borrow.Author.Tests.{eq-eqb, ne_eqb}
use Rattle.feature.specs.Feature.{trains, is_one}
use Rattle.feature.proofs.trains.Goals as goal

one : (z : ℤ) → SFits w32 z → of_z w32 z ≡ 1 → is_one z ≡ true
one (pos n) f e = eq-eqb n 1 e
one (negsuc n) f e = absurd (omega arith)

other : (z : ℤ) → (of_z w32 z ≡ 1 → ⊥) → is_one z ≡ false
other (pos n) h = ne_eqb n 1 h
other (negsuc n) h = refl

pub returns-then-label-eq1 : goal.returns-then-label-eq1
unfolding trains
returns-then-label-eq1 c = simp (one c.args.label c.ranges.label c.if-label-eq1.true)

pub returns-else-label-eq1 : goal.returns-else-label-eq1
unfolding trains
returns-else-label-eq1 c =
    let e = other c.args.label c.if-label-eq1.false in search rules

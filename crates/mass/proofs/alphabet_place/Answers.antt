-- `mass::alphabet_place` meets its contract: a letter's place counts it from A, and a byte that is no letter has the
-- column of Z.
use mathlib.Core.Path.{◌≡◌, ap, sym, ◌∙◌}
use Prim.Native.Nat.{◌+◌, ◌-◌, ◌≤◌}
use native.Mathlib.Omega.{arith}
use Rattle.mass.specs.Mass.{column_of, place_from, valid_aa}
use Rattle.mass.proofs.Laws.{letter_bounds, no_letter_column}
use Rattle.mass.proofs.alphabet_place.Goals as goal

-- the bounds of the letter
bounds : (c : goal.Then-is_letter) → (65 ≤ c.args.byte) × (c.args.byte ≤ 90)
bounds c = letter_bounds c.args.byte (sym c.is_letter.ensures ∙ c.if-is_letter.true)

pub overflow_sub-result : goal.overflow_sub-result
overflow_sub-result c = let b = bounds c in omega arith

pub returns-then-is_letter : goal.returns-then-is_letter
returns-then-is_letter c =
    let b = bounds c in
    let e : 65 + (c.args.byte - 65) ≡ c.args.byte = omega arith in
    (omega arith, ap column_of e)

pub returns : goal.returns
unfolding column_of place_from valid_aa
returns c =
    let f = sym c.is_letter.ensures ∙ c.if-is_letter.false in
    (omega arith, sym (no_letter_column c.args.byte f))

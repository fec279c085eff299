-- `text::decimal::read_decimal` meets its contract: by the length and the first digit, as the definition goes.
use Rattle.std.proofs.Common.{◌≡◌, sym, ◌∙◌}
use borrow.Author.Tests.{eqb-true, eqb-false}
use Rattle.text.specs.Decimal.{read_from, read_decimal}
use Rattle.text.proofs.Decimals.{read_empty, read_zero, read_one, read_more}
use Rattle.text.proofs.decimal.read_decimal.Goals as goal
use Rattle.text.proofs.decimal.read_decimal.Goals.{else-s-gt1-via-then-s-gt1+else-s-eq48, else-s-gt1-via-else-s-gt1}

pub returns-then-is_empty : goal.returns-then-is_empty
returns-then-is_empty c = sym (read_empty _ _ (eqb-true _ _ (sym c.if-is_empty.ensures)))

pub returns-then-s-eq48 : goal.returns-then-s-eq48
returns-then-s-eq48 c = sym (read_zero _ _ c.if-s-gt1.true c.if-s-eq48.true)

pub returns : goal.returns
returns c =
    let s = c.args.s.now in
    let max = c.args.max in
    let e : read_decimal max s ≡ read_from max 0 s =
    elim c.else-s-gt1.branch [
      | else-s-gt1-via-then-s-gt1+else-s-eq48 w ↦ read_more max s w.if-s-gt1.true w.if-s-eq48.false
      | else-s-gt1-via-else-s-gt1 w ↦ read_one max s (eqb-false _ _ (sym c.if-is_empty.ensures)) w.if-s-gt1.false
    ] in
    c.digits_up_to.ensures ∙ sym e

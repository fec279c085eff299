-- `text::line::read_hex_digits` meets its contract: by the number of digits, as the definition goes.
use Rattle.std.proofs.Common.{sym, ◌∙◌}
use Rattle.text.proofs.Numbers.{hex_digits, hex_other}
use Rattle.text.proofs.line.read_hex_digits.Goals as goal

pub returns-then-s-digits : goal.returns-then-s-digits
returns-then-s-digits c = c.read_hex.ensures ∙ sym (hex_digits c.args.digits c.args.s.now c.if-s-digits.true)

pub returns-else-s-digits : goal.returns-else-s-digits
returns-else-s-digits c = sym (hex_other c.args.digits c.args.s.now c.if-s-digits.false)

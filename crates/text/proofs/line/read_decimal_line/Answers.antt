-- `text::line::read_decimal_line` meets its contract: what read_line gives at the value's reader.
use Rattle.text.specs.Decimal.{read_decimal}
use Rattle.std.proofs.Common.{rules}
use Rattle.text.specs.Line.{decimal_line}
use Rattle.text.proofs.line.read_decimal_line.Goals as goal

pub returns : goal.returns
unfolding decimal_line
returns c = c.read_line.ensures (read_decimal c.args.max) (λ s answer says. search rules)

-- `text::line::read_signed_line` meets its contract: what read_line gives at the value's reader.
use Rattle.text.specs.Decimal.{read_signed}
use Rattle.std.proofs.Common.{rules}
use Rattle.text.specs.Line.{signed_line}
use Rattle.text.proofs.line.read_signed_line.Goals as goal

pub returns : goal.returns
unfolding signed_line
returns c = c.read_line.ensures (read_signed) (λ s answer says. search rules)

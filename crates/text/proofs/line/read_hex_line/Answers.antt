-- `text::line::read_hex_line` meets its contract: what read_line gives at the value's reader.
use Rattle.text.specs.Line.{read_hex_digits}
use Rattle.std.proofs.Common.{rules}
use Rattle.text.specs.Line.{hex_line}
use Rattle.text.proofs.line.read_hex_line.Goals as goal

pub returns : goal.returns
unfolding hex_line
returns c = c.read_line.ensures (read_hex_digits c.args.digits) (λ s answer says. search rules)

-- `text::line::read_line` meets its contract: a line's value is what read makes of what stands behind the key.
use Rattle.std.proofs.Common.{ap, ◌∙◌}
use Rattle.text.proofs.Answers.{with_next, read_on, line_reading}
use Rattle.text.proofs.line.read_line.Goals as goal

pub returns-in_err-line : goal.returns-in_err-line
returns-in_err-line g c =
    λ reading computes. c.from_residual.ensures ∙ ap (read_on reading) c.in_err-line.ensures ∙ line_reading reading c.args.at c.args.key.now _

pub returns-in_err-value : goal.returns-in_err-value
returns-in_err-value g c =
    λ reading computes.
    c.from_residual-in_err-value.ensures
    ∙ ap (with_next c.in_ok-line.line.next) (computes _ _ c.in_err-value.ensures)
    ∙ ap (read_on reading) c.in_ok-line.ensures
    ∙ line_reading reading c.args.at c.args.key.now _

pub returns : goal.returns
returns g c =
    λ reading computes.
    ap (with_next c.in_ok-line.line.next) (computes _ _ c.in_ok-value.ensures)
    ∙ ap (read_on reading) c.in_ok-line.ensures
    ∙ line_reading reading c.args.at c.args.key.now _

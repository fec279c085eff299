-- `text::line::line_end` meets its contract: a line ends at the first LF from its start on.
use Rattle.std.proofs.Common.{◌+◌, sym, ap, ◌∙◌, arith}
use Rattle.std.specs.List.{position}
use Rattle.std.specs.Option.{option_map}
use lib.ListN.{drop_of_length-le}
use Rattle.text.specs.Line.{line_of}
use Rattle.text.specs.Answer.{line_end}
use Rattle.text.proofs.Lists.{part_rest}
use Rattle.text.proofs.Answers.{is_lf, end_position}
use Rattle.text.proofs.line.line_end.Goals as goal

pub returns-in_err-get : goal.returns-in_err-get
unfolding line_of
returns-in_err-get c =
    c.from_residual.ensures
    ∙ sym (ap (λ s. line_end c.args.at (line_of s)) (drop_of_length-le c.args.text.now (grind arith)))

pub returns-in_err-length : goal.returns-in_err-length
returns-in_err-length c =
    let p = c.in_err-length.ensures ∙ ap (position is_lf) (c.in_ok-get.ensures.lookup.0.2 ∙ part_rest c.args.text.now c.args.at) in
    c.from_residual-in_err-length.ensures ∙ ap (option_map (λ n. c.args.at + n)) p ∙ sym (end_position c.args.at _)

pub returns : goal.returns
returns c =
    let p = c.in_ok-length.ensures ∙ ap (position is_lf) (c.in_ok-get.ensures.lookup.0.2 ∙ part_rest c.args.text.now c.args.at) in
    ap (option_map (λ n. c.args.at + n)) p ∙ sym (end_position c.args.at _)

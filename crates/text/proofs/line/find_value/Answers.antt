-- `text::line::find_value` meets its contract: by where the line ends, and by whether it begins with the key.
use Rattle.std.proofs.Common.{sym, ap, ◌∙◌, ◌+◌, Some, arith}
use Rattle.text.specs.Answer.{seen}
use Rattle.text.proofs.Answers.{value_none, value_other, value_some, end_le, end_within}
use Rattle.text.proofs.line.find_value.Goals as goal

pub returns-in_err-end : goal.returns-in_err-end
returns-in_err-end c =
    ap seen c.from_residual.ensures ∙ sym (value_none c.args.text.now c.args.at c.args.key.now c.in_err-end.ensures)

pub slice_bounds-strip_prefix-end : goal.slice_bounds-strip_prefix-end
slice_bounds-strip_prefix-end c =
    omega (arith, end_within c.args.text.now c.args.at c.args.key.now c.in_ok-end.end c.in_ok-end.ensures)

pub slice_bounds-strip_prefix-start : goal.slice_bounds-strip_prefix-start
slice_bounds-strip_prefix-start c = end_le c.args.text.now c.args.at c.args.key.now c.in_ok-end.end c.in_ok-end.ensures

pub returns-in_err-value : goal.returns-in_err-value
returns-in_err-value c =
    ap seen c.from_residual-in_err-value.ensures
    ∙ sym (value_other c.args.text.now c.args.at c.args.key.now c.in_ok-end.end c.in_ok-end.ensures c.in_err-value.ensures.cases)

pub overflow_add-result : goal.overflow_add-result
overflow_add-result c =
    omega (arith, end_within c.args.text.now c.args.at c.args.key.now c.in_ok-end.end c.in_ok-end.ensures)

pub returns : goal.returns
returns c =
    ap (λ v. Some (record { value = v; next = c.in_ok-end.end + 1 })) c.in_ok-value.ensures.cases.1
    ∙ sym (value_some c.args.text.now c.args.at c.args.key.now c.in_ok-end.end c.in_ok-end.ensures c.in_ok-value.ensures.cases.0)

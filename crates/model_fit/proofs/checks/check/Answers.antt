-- `model_fit::checks::check` meets its contract: each check's answer, and the first that fails.
use mathlib.Core.Path.{ap, ◌∙◌}
use Rattle.model_fit.proofs.Status.{status_is, table_checked}
use Rattle.status.specs.Status.{checked, status_of}
use Rattle.model_fit.proofs.checks.check.Goals as goal

pub returns : goal.returns
returns c =
    c.first_failing.ensures
    ∙ ap checked
    (status_is _ _ _ _ _ _ _
    c.lengths_agree-lengths.ensures
    c.row_limits-limits.ensures
    (ap status_of c.check_table-table_right.ensures ∙ table_checked _ _ _)
    c.all_below-peptides_right.ensures)

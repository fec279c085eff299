-- `retention_alignment::check` meets its contract: each check's answer, and the first that fails.
use mathlib.Core.Path.{◌∙◌}
use Rattle.retention_alignment.specs.Call.{status_by}
use Rattle.retention_alignment.proofs.check.Goals as goal

pub returns : goal.returns
unfolding status_by
returns c =
    c.first_failing.ensures
    ∙ rw (
      c.same_lengths.ensures,
      c.limits.ensures,
      c.cells_fit.ensures,
      c.hold.ensures,
      c.all_below.ensures,
      c.all_below-2.ensures,
    )

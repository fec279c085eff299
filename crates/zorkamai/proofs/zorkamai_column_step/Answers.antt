-- `zorkamai::zorkamai_column_step` meets its contract: by those of the two that it calls.
use mathlib.Core.Path.{ap, ◌∙◌}
use Rattle.zorkamai.specs.Answers.{of_step}
use Rattle.zorkamai.proofs.zorkamai_column_step.Goals as goal

pub returns : goal.returns
returns c = c.from.ensures ∙ ap of_step c.step_at.ensures

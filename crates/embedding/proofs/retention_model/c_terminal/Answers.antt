-- `embedding::retention_model::c_terminal` meets its contract: its two positions end before the last residue.
use mathlib.Core.Path.{sym, ◌∙◌}
use Rattle.embedding.specs.declared.Model.TheVariants.{Retention}
use Rattle.embedding.proofs.Positions.{chosen_c, end_of}
use Rattle.embedding.proofs.retention_model.c_terminal.Goals as goal

pub returns-clause-part : goal.returns-clause-part
unfolding end_of
returns-clause-part c = c.two_before.ensures.part ∙ rw c.saturating_sub.ensures (sym (chosen_c Retention c.args.letters.now))

-- `embedding::mobility_model::c_terminal` meets its contract: its two positions end with the peptide.
use mathlib.Core.Path.{sym, ◌∙◌}
use Rattle.embedding.specs.declared.Model.TheVariants.{Mobility}
use Rattle.embedding.proofs.Positions.{chosen_c, end_of}
use Rattle.embedding.proofs.mobility_model.c_terminal.Goals as goal

pub returns-clause-part : goal.returns-clause-part
unfolding end_of
returns-clause-part c = c.two_before.ensures.part ∙ sym (chosen_c Mobility c.args.letters.now)

-- `mass::residue_at` meets its contract: the constant is the list of the definition.
use Rattle.std.proofs.Common.{rules}
use Rattle.mass.specs.Mass.{residue_at, valid_aa}
use Rattle.mass.proofs.residue_at.Goals as goal

pub returns : goal.returns
unfolding residue_at valid_aa
returns c = search rules

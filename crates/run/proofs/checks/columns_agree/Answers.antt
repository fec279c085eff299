-- `run::checks::columns_agree` meets its contract: six lengths as four and two.
use mathlib.Core.Path.{refl}
use Rattle.run.proofs.CheckLaws.{six_lengths, one_length}
use Rattle.run.proofs.checks.columns_agree.Goals as goal

pub returns : goal.returns
returns c = rw (c.same_lengths-first.ensures, six_lengths, one_length) refl

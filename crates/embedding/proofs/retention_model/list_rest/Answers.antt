-- `embedding::retention_model::list_rest` meets its contract: one block after the other.
use native.Mathlib.Omega.{arith}
use Rattle.embedding.specs.declared.Model.TheVariants.{Retention}
use Rattle.embedding.specs.Design.{n_terminal, c_terminal, block}
use Rattle.embedding.proofs.Rows.{length_block, retention_rest_lem}
use Rattle.embedding.proofs.Appending.{both_listed, listed_as, part_listed}
use Rattle.embedding.proofs.retention_model.list_rest.Goals as goal

pub returns-clause-listed : goal.returns-clause-listed
unfolding block
returns-clause-listed c =
    let ls = c.args.ion.letters.now in
    rw (retention_rest_lem ls c.args.ion.log)
    (both_listed (part_listed n_terminal ls c.n_terminal.ensures.part c.push_part.ensures.listed)
    (omega (arith, length_block n_terminal ls))
    (both_listed (part_listed (c_terminal Retention) ls c.c_terminal.ensures.part c.push_part-2.ensures.listed)
    (omega (arith, length_block (c_terminal Retention) ls))
    (listed_as c.scalars.ensures c.push_all.ensures.listed)))

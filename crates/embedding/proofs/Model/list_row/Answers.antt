-- `embedding::Model::list_row` meets its contract: each model's own.
use Rattle.embedding.specs.Design.{design}
use Rattle.embedding.proofs.Model.list_row.Goals as goal

pub returns-in-Retention-clause-listed : goal.returns-in-Retention-clause-listed
unfolding design
returns-in-Retention-clause-listed c = rw c.in-Retention.is c.list.ensures.listed

pub returns-in-Mobility-clause-listed : goal.returns-in-Mobility-clause-listed
unfolding design
returns-in-Mobility-clause-listed c = rw c.in-Mobility.is c.list-in-Mobility.ensures.listed

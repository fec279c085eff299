-- `models::mobility_model::fit` meets its contract: that of both models, on what this one reads.
use Rattle.models.proofs.mobility_model.fit.Goals as goal

pub returns : goal.returns
returns c = rw c.read.ensures at c.fit.ensures

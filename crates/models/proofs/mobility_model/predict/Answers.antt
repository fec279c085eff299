-- `models::mobility_model::predict` meets its contract: that of both models, on what this one reads.
use Rattle.models.proofs.mobility_model.predict.Goals as goal

pub returns : goal.returns
returns c = rw c.read.ensures at c.predict.ensures

-- `models::retention_model::predict_accepted` meets its contract: that of both models, on what this one reads.
use Rattle.models.proofs.retention_model.predict_accepted.Goals as goal

pub returns : goal.returns
returns c = rw c.read.ensures at c.predict_accepted.ensures

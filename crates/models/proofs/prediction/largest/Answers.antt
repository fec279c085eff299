-- `models::prediction::largest` meets its contract, model by model.
use Rattle.embedding.proofs.Rows.{one}
use Rattle.models.proofs.Writing.{two}
use Rattle.models.proofs.prediction.largest.Goals as goal

pub returns-in-Retention : goal.returns-in-Retention
returns-in-Retention c = rw c.in-Retention.is one

pub returns-in-Mobility : goal.returns-in-Mobility
returns-in-Mobility c = rw c.in-Mobility.is two

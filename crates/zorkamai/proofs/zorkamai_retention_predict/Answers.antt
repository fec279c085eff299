-- `zorkamai::zorkamai_retention_predict` meets its contract: by those of the two that it calls.
use Rattle.zorkamai.proofs.Calls.{exported}
use Rattle.zorkamai.specs.Answers.{of_predict}
use Rattle.zorkamai.proofs.zorkamai_retention_predict.Goals as goal

pub returns : goal.returns
returns c =
    let entry = c.predict.ensures in
    exported of_predict _ c.from.ensures entry.answer entry
